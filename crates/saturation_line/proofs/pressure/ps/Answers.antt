-- `saturation_line::pressure::ps` meets its contract: each return stands under the tests that led there, and the pressure is that of Eq. (28). Assumes nothing.
use mathlib.Core.Path.{refl}
use Rattle.saturation_line.specs.Pressure.{ps_of}
use Rattle.saturation_line.proofs.pressure.ps.Goals as goal

pub returns-then-up_to_623 : goal.returns-then-up_to_623
unfolding ps_of
returns-then-up_to_623 c =
    rw (← c.up_to_623.ensures, c.if-up_to_623.true, c.equation_28.ensures) refl

pub returns-then-above_623 : goal.returns-then-above_623
unfolding ps_of
returns-then-above_623 c =
    rw (
      ← c.up_to_623.ensures,
      c.if-up_to_623.false,
      ← c.above_623.ensures,
      c.if-above_623.true,
      c.equation_28-then-above_623.ensures,
    ) refl

pub returns : goal.returns
unfolding ps_of
returns c =
    rw (← c.up_to_623.ensures, c.if-up_to_623.false, ← c.above_623.ensures, c.if-above_623.false) refl
