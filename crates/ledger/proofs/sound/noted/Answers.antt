-- `ledger::sound::noted` meets its contract: the test of each place is that of the definition. Assumes nothing.
use Rattle.std.proofs.Common.{rules, ◌≡◌, ℕ, ◌+◌, ◌*◌, refl, true, false}
use Rattle.std.proofs.lemmas.Iterator.{YieldsList-from_range, cases_from_any}
use borrow.Author.Tests.{tests}
use lib.Dec.{eqb}
use lib.ListN.{get_or}
use Rattle.ledger.specs.Noted.{often, among}
use Rattle.ledger.proofs.Told.{any_counted}
use Rattle.ledger.proofs.sound.noted.Goals as goal

pub returns : goal.returns
unfolding among often
returns c =
    let holds = λ (k : ℕ). eqb (get_or c.args.tickets.now (c.args.caller + 8 * k) 0) c.args.t in
    any_counted holds 3 c.any.result (cases_from_any _ _ _ (λ k. holds k ≡ true) (λ k. holds k ≡ false) c.any.ensures.ran (YieldsList-from_range 0 3 3 refl refl) (λ x q k. search (rules, tests)) (λ x q k. search (rules, tests)))
