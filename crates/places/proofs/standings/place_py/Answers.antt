-- `places::standings::place_py` meets its contract: its place is that of the standing. Assumes nothing.
use mathlib.Core.Path.{refl}
use Rattle.std.proofs.lemmas.Result.{err_from_is_err_and}
use Rattle.places.proofs.Stands.{side_kept}
use Rattle.places.proofs.standings.place_py.Goals as goal

pub returns-in_err-standing_py : goal.returns-in_err-standing_py
returns-in_err-standing_py c =
    let refused = err_from_is_err_and c.from_residual.result c.from_residual.ensures.1 in
    rw (refused.1, refused.2, ← side_kept, ← c.standing_py.ensures, c.in_err-standing_py.was) refl

pub returns : goal.returns
returns c = rw (← side_kept, ← c.standing_py.ensures, c.in_ok-standing_py.was, c.side.ensures) refl
