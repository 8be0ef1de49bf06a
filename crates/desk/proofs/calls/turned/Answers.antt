-- `desk::calls::turned` meets its contract: one halving of the first unfinished row at or after the pointer. Assumes nothing.
use Rattle.std.proofs.Common.{◌≡◌, length, arith, sym, ◌∙◌}
use Rattle.desk.proofs.Ways.{found_at, points, turn_goes_on, turn_halves}
use Rattle.desk.proofs.calls.turned.Goals as goal

pub overflow_add-i : goal.overflow_add-i
overflow_add-i c = points c.args.d.now (sym c.is_sound.ensures ∙ c.if-not-is_sound.false) _ (found_at _ _ c.in-Some.ensures).1

pub halved-requires : goal.halved-requires
halved-requires c =
    let long : length c.args.d.now.rows ≡ 32 = omega arith in
    let on = found_at _ _ c.in-Some.ensures in
    turn_goes_on c.args.d.now long _ _ (rw on.0 at on.1) (rw on.0)

pub returns : goal.returns
returns c =
    let long : length c.args.d.now.rows ≡ 32 = omega arith in
    let on = found_at _ _ c.in-Some.ensures in
    turn_halves c.args.d.now long _ _ _ (sym c.is_sound.ensures ∙ c.if-not-is_sound.false) (rw on.0 at on.1) (rw on.0) c.halved.ensures
