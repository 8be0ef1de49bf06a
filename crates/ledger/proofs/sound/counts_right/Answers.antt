-- `ledger::sound::counts_right` meets its contract: the test of each count is that of the definition. Assumes nothing.
use Rattle.std.proofs.Common.{rules, ◌≡◌, true, false}
use Rattle.std.proofs.lemmas.Iterator.{YieldsList-from_slice, cases_from_all}
use borrow.Author.Tests.{tests}
use lib.Dec.{leb}
use Rattle.ledger.specs.Rows.{most, counts_right}
use Rattle.ledger.proofs.Told.{all_upto}
use Rattle.ledger.proofs.sound.counts_right.Goals as goal

pub returns : goal.returns
unfolding counts_right
returns c =
    rw c.told-counts at (all_upto (λ n. leb n most) c.args.counts.now c.all.result (cases_from_all _ _ _ (λ n. leb n most ≡ true) (λ n. leb n most ≡ false) c.all.ensures.ran (YieldsList-from_slice c.args.counts.now cc) (λ x q k. search (rules, tests)) (λ x q k. search (rules, tests))))
