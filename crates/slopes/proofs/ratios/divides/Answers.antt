-- `slopes::ratios::divides` meets its contract: zero is judged before the rest. Assumes nothing.
use mathlib.Core.Path.{refl}
use lib.Ieee.{of_bits, of_int}
use Rattle.slopes.specs.Slopes.{divides_of}
use Rattle.slopes.proofs.ratios.divides.Goals as goal

pub returns-then-below : goal.returns-then-below
unfolding divides_of of_bits of_int
returns-then-below c = rw c.if-below.true refl

pub returns : goal.returns
unfolding divides_of of_bits of_int
returns c = rw (c.if-below.false, c.is_finite.ensures) refl
