-- `ledger::sound::rows_right` meets its contract: what the pass has noted is what `Passed` says, and each row that comes next is one of its laws. Assumes nothing.
use native.Mathlib.Omega.{arith}
use lib.ListN.{length}
use mathlib.Core.Path.{◌≡◌, sym, ◌∙◌}
use Prim.Native.Nat.{suc-le-suc}
use Rattle.ledger.proofs.Tests.{told_right}
use Rattle.ledger.proofs.Lists.{count_fits, row_read}
use Rattle.ledger.proofs.Pass.{bytes_fit, passed_none, passed_empty, passed_filled, passed_all, wrong_row, fifth_row, ticket_again}
use Rattle.ledger.proofs.sound.rows_right.Goals as goal

pub loop-r-init : goal.loop-r-init
loop-r-init c = passed_none _

pub returns-then-not-row_right : goal.returns-then-not-row_right
returns-then-not-row_right c =
    let h = c.loop-r-test.true in
    let long : length c.args.d.now.rows ≡ 32 = omega arith in
    let same = row_read c.args.d.now long c.loop-r.r-index _ h in
    let wrong = sym c.row_right.ensures ∙ c.if-not-row_right.true in
    sym (wrong_row c.args.d.now c.loop-r.r-index c.loop-r.tickets c.loop-r.next c.loop-r.invariant h _ same c.if-not-r.false wrong)

pub offset_bounds-next-c : goal.offset_bounds-next-c
offset_bounds-next-c c = count_fits _ (told_right _ _ _ c.row_right.ensures c.if-not-row_right.false).known

pub bounds-next-c : goal.bounds-next-c
bounds-next-c c = (told_right _ _ _ c.row_right.ensures c.if-not-row_right.false).known

pub returns-then-place-gt31 : goal.returns-then-place-gt31
returns-then-place-gt31 c =
    let h = c.loop-r-test.true in
    let long : length c.args.d.now.rows ≡ 32 = omega arith in
    let same = row_read c.args.d.now long c.loop-r.r-index _ h in
    let known = (told_right _ _ _ c.row_right.ensures c.if-not-row_right.false).known in
    sym (fifth_row c.args.d.now c.loop-r.r-index c.loop-r.tickets c.loop-r.next c.loop-r.invariant h _ same c.if-not-r.false known c.if-place-gt31.true)

pub noted-requires : goal.noted-requires
noted-requires c = (told_right _ _ _ c.row_right.ensures c.if-not-row_right.false).known

pub returns-then-noted : goal.returns-then-noted
returns-then-noted c =
    let h = c.loop-r-test.true in
    let long : length c.args.d.now.rows ≡ 32 = omega arith in
    let same = row_read c.args.d.now long c.loop-r.r-index _ h in
    let told = told_right _ _ _ c.row_right.ensures c.if-not-row_right.false in
    sym (ticket_again c.args.d.now c.loop-r.r-index c.loop-r.tickets c.loop-r.next c.loop-r.invariant h _ same c.if-not-r.false c.requires told c.if-place-gt31.false _ c.noted.ensures c.if-noted.true)

pub offset_bounds-tickets-place : goal.offset_bounds-tickets-place
offset_bounds-tickets-place c = bytes_fit _ c.if-place-gt31.false

pub bounds-tickets-place : goal.bounds-tickets-place
bounds-tickets-place c = suc-le-suc c.if-place-gt31.false

pub overflow_add-next : goal.overflow_add-next
overflow_add-next c = let room = c.if-place-gt31.false in omega arith

pub offset_bounds-next-c-in-loop-r : goal.offset_bounds-next-c-in-loop-r
offset_bounds-next-c-in-loop-r c =
    count_fits _ (told_right _ _ _ c.row_right.ensures c.if-not-row_right.false).known

pub bounds-next-c-in-loop-r : goal.bounds-next-c-in-loop-r
bounds-next-c-in-loop-r c =
    (told_right _ _ _ c.row_right.ensures c.if-not-row_right.false).known

pub loop-r-preserved : goal.loop-r-preserved
loop-r-preserved c =
    let h = c.loop-r-test.true in
    let long : length c.args.d.now.rows ≡ 32 = omega arith in
    let same = row_read c.args.d.now long c.loop-r.r-index _ h in
    let told = told_right _ _ _ c.row_right.ensures c.if-not-row_right.false in
    passed_filled c.args.d.now c.loop-r.r-index c.loop-r.tickets c.loop-r.next c.loop-r.invariant h _ same c.if-not-r.false c.requires told c.if-place-gt31.false _ c.noted.ensures c.if-noted.false

pub loop-r-preserved-then-not-r : goal.loop-r-preserved-then-not-r
loop-r-preserved-then-not-r c =
    let h = c.loop-r-test.true in
    let long : length c.args.d.now.rows ≡ 32 = omega arith in
    let same = row_read c.args.d.now long c.loop-r.r-index _ h in
    passed_empty c.args.d.now c.loop-r.r-index c.loop-r.tickets c.loop-r.next c.loop-r.invariant h _ same c.if-not-r.true

pub returns : goal.returns
returns c = sym (passed_all _ _ _ _ c.loop-r.invariant c.loop-r-test.false)
