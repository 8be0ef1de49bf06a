-- `records::desks::rows_known` meets its contract: each row passed says 1 or 0, and the first that does not settles it. Assumes nothing.
use mathlib.Core.Bool.{true}
use mathlib.Core.Path.{◌≡◌, refl, sym, ap, ◌∙◌}
use Prim.Native.Nat.{◌≤◌}
use native.Mathlib.Omega.{arith}
use borrow.Author.Tests.{le-leb, lt-leb}
use lib.Dec.{leb}
use Rattle.words.specs.Words.{word_of}
use Rattle.ledger.specs.Search.{upto}
use Rattle.ledger.proofs.Search.{upto_fails, upto_more}
use Rattle.records.specs.Records.{row_start, rows_known}
use Rattle.records.proofs.desks.rows_known.Goals as goal

pub returns-then-rest-lt2936 : goal.returns-then-rest-lt2936
unfolding rows_known
returns-then-rest-lt2936 c = simp (lt-leb _ _ c.if-rest-lt2936.true)

pub loop-i-init : goal.loop-i-init
unfolding upto
loop-i-init c = refl

pub returns-then-word-gt1 : goal.returns-then-word-gt1
unfolding rows_known
returns-then-word-gt1 c =
    let rest = c.args.rest.now in
    let read = c.word.ensures ∙ ap (word_of rest) c.row_start.ensures in
    let two = lt-leb (word_of rest (row_start c.loop-i.i)) 1 (rw (sym read) c.if-word-gt1.true) in
    let no = upto_fails (λ k. leb (word_of rest (row_start k)) 1) 32 c.loop-i.i c.loop-i-test.true two in
    simp (le-leb _ _ c.if-rest-lt2936.false, no)

pub loop-i-preserved : goal.loop-i-preserved
loop-i-preserved c =
    let rest = c.args.rest.now in
    let few : c.word.result ≤ 1 = omega arith in
    let read = c.word.ensures ∙ ap (word_of rest) c.row_start.ensures in
    upto_more (λ k. leb (word_of rest (row_start k)) 1) c.loop-i.i c.loop-i.invariant (le-leb (word_of rest (row_start c.loop-i.i)) 1 (rw (sym read) few))

pub returns : goal.returns
unfolding rows_known
returns c =
    let rest = c.args.rest.now in
    let e : c.loop-i.i ≡ 32 = omega arith in
    let yes : upto (λ k. leb (word_of rest (row_start k)) 1) 32 ≡ true = rw e at c.loop-i.invariant in
    simp (le-leb _ _ c.if-rest-lt2936.false, yes)
