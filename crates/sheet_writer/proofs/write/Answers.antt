-- `sheet_writer::write` meets its contract: on a refusal nothing is touched, else the sheet is filled in, which then fits. Assumes nothing.
use mathlib.Core.Path.{sym, ◌∙◌}
use native.Mathlib.Omega.{arith}
use Rattle.std.proofs.lemmas.Result.{err_from_is_err_and}
use Rattle.sheet_writer.proofs.WriteLaws.{written, written_small, room_written, room_refused}
use Rattle.sheet_writer.proofs.write.Goals as goal

pub fill-requires : goal.fill-requires
fill-requires c = omega (arith, written_small _ _ _ _ (written _ _ _ _ (sym c.judge.ensures ∙ c.in_ok-length.was)))

pub returns-in_err-length : goal.returns-in_err-length
returns-in_err-length c =
    let p = err_from_is_err_and c.from_residual.result c.from_residual.ensures.1 in
    let e = sym c.judge.ensures ∙ c.in_err-length.was in
    rw (p.1, p.2) (sym e, room_refused _ _ _ _ e)

pub returns : goal.returns
returns c =
    let e = sym c.judge.ensures ∙ c.in_ok-length.was in
    (sym e, c.fill.ensures ∙ room_written _ _ _ _ e)
