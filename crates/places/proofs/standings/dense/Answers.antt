-- `places::standings::dense` meets its contract: each return stands under the tests that led there. Assumes nothing.
use mathlib.Core.Path.{refl}
use lib.Ieee.{round, of_bits}
use Rattle.arith.specs.Printed.{printed}
use Rattle.places.specs.Places.{dense_of}
use Rattle.places.proofs.standings.dense.Goals as goal

pub returns-then-y-property : goal.returns-then-y-property
unfolding dense_of printed round of_bits
returns-then-y-property c = rw (← c.property.ensures, c.if-y-property.true) refl

pub returns-then-y-property-2 : goal.returns-then-y-property-2
unfolding dense_of printed round of_bits
returns-then-y-property-2 c =
    rw (
      ← c.property.ensures,
      c.if-y-property.false,
      ← c.t_b23.ensures,
      ← c.property-2.ensures,
      c.if-y-property-2.true,
    ) refl

pub returns : goal.returns
unfolding dense_of printed round of_bits
returns c =
    rw (
      ← c.property.ensures,
      c.if-y-property.false,
      ← c.t_b23.ensures,
      ← c.property-2.ensures,
      c.if-y-property-2.false,
    ) refl
