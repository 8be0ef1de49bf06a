-- `sums::queries::from_py` meets its contract: the state is worked where it was found. Assumes nothing.
use mathlib.Core.Path.{refl}
use Rattle.sums.proofs.Carried.{py_same}
use Rattle.sums.proofs.queries.from_py.Goals as goal

pub returns-in-Single : goal.returns-in-Single
returns-in-Single c = rw (← py_same c.args.given c.args.p c.args.y, ← c.in_ok-a.ensures, c.in-Single.is, c.marked.ensures) refl
