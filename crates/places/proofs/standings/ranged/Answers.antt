-- `places::standings::ranged` meets its contract: each return stands under the tests that led there. Assumes nothing.
use mathlib.Core.Path.{refl, ap}
use lib.Ieee.{round, of_bits}
use Rattle.std.specs.Prelude.{Ok}
use Rattle.arith.specs.Printed.{printed}
use Rattle.places.specs.Places.{ranged_of}
use Rattle.places.specs.Standing.{standing_of}
use Rattle.std.proofs.lemmas.Result.{err_from_is_err_and}
use Rattle.places.proofs.standings.ranged.Goals as goal

pub returns-then-outside : goal.returns-then-outside
unfolding ranged_of standing_of printed round of_bits
returns-then-outside c = rw (← c.property-least.ensures, ← c.property-most.ensures, ← c.outside.ensures, c.if-outside.true) refl

pub returns-then-saturates : goal.returns-then-saturates
unfolding ranged_of standing_of printed round of_bits
returns-then-saturates c =
    rw (
      ← c.property-least.ensures,
      ← c.property-most.ensures,
      ← c.outside.ensures,
      c.if-outside.false,
      ← c.saturates.ensures,
      c.if-saturates.true,
      ← c.saturates.ensures,
      c.if-saturates.true,
    ) (ap Ok c.saturated.ensures)

pub returns-in_err-dense : goal.returns-in_err-dense
unfolding ranged_of standing_of printed round of_bits
returns-in_err-dense c =
    let refused = err_from_is_err_and c.from_residual.result c.from_residual.ensures.1 in
    rw (
      refused.1,
      refused.2,
      ← c.property-least.ensures,
      ← c.property-most.ensures,
      ← c.outside.ensures,
      c.if-outside.false,
      ← c.saturates.ensures,
      c.if-saturates.false,
      ← c.dense.ensures,
      c.in_err-dense.was,
    ) refl

pub returns : goal.returns
unfolding ranged_of standing_of printed round of_bits
returns c =
    rw (
      ← c.property-least.ensures,
      ← c.property-most.ensures,
      ← c.outside.ensures,
      c.if-outside.false,
      ← c.saturates.ensures,
      c.if-saturates.false,
      ← c.dense.ensures,
      c.in_ok-dense.was,
      ← c.saturates.ensures,
      c.if-saturates.false,
    ) refl
