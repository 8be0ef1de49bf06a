-- `sums::outcomes::of_py` meets its contract: it finds the state by how p and the h or s stand to the saturation line. Assumes nothing.
use mathlib.Core.Path.{◌≡◌, refl}
use Rattle.std.proofs.Common.{arith}
use Rattle.std.proofs.lemmas.Grind.{common_steps}
use Rattle.std.specs.Prelude.{Err}
use Rattle.sums.specs.Outcomes.{found_of}
use Rattle.sums.specs.Queries.{answer_py}
use Rattle.sums.proofs.Carried.{found_standing_lem}
use Rattle.sums.proofs.outcomes.of_py.Goals as goal

pub returns-in_err-phase : goal.returns-in_err-phase
returns-in_err-phase c =
    let refused : found_of (answer_py c.args.given c.args.p c.args.y) ≡ Err c.in_err-phase.field-0.0 =
    rw (found_standing_lem, ← c.in_err-phase.ensures) refl in
    grind (arith, common_steps)

pub returns-in-Beside : goal.returns-in-Beside
returns-in-Beside c =
    rw (
      c.pulled-t.ensures,
      c.temperature.ensures,
      c.equation_of-equation.ensures,
      found_standing_lem,
      ← c.in_ok-phase.ensures,
      c.in-Beside.is,
    ) refl

pub returns-in-Wet : goal.returns-in-Wet
returns-in-Wet c = rw (c.wet_at.ensures, found_standing_lem, ← c.in_ok-phase.ensures, c.in-Wet.is) refl

pub returns-in-Beyond : goal.returns-in-Beyond
returns-in-Beyond c =
    rw (
      c.temperature-t.ensures,
      c.equation_of-equation-in-Beyond.ensures,
      found_standing_lem,
      ← c.in_ok-phase.ensures,
      c.in-Beyond.is,
    ) refl
