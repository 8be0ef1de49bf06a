-- `places::tables::place_pt` meets its contract: each return stands under the tests that led there. Assumes nothing.
use mathlib.Core.Path.{refl}
use lib.Ieee.{round, of_bits, of_int}
use Rattle.arith.specs.Printed.{printed}
use Rattle.places.specs.Places.{place_pt}
use Rattle.places.proofs.tables.place_pt.Goals as goal

pub returns-then-wild : goal.returns-then-wild
unfolding place_pt printed round of_bits of_int
returns-then-wild c = rw (← c.wild.ensures, c.if-wild.true) refl

pub returns-then-outside : goal.returns-then-outside
unfolding place_pt printed round of_bits of_int
returns-then-outside c =
    rw (← c.wild.ensures, c.if-wild.false, ← c.outside.ensures, c.if-outside.true) refl

pub returns-then-outside-2 : goal.returns-then-outside-2
unfolding place_pt printed round of_bits of_int
returns-then-outside-2 c =
    rw (
      ← c.wild.ensures,
      c.if-wild.false,
      ← c.outside.ensures,
      c.if-outside.false,
      ← c.outside-2.ensures,
      c.if-outside-2.true,
    ) refl

pub returns : goal.returns
unfolding place_pt printed round of_bits of_int
returns c =
    rw (
      ← c.wild.ensures,
      c.if-wild.false,
      ← c.outside.ensures,
      c.if-outside.false,
      ← c.outside-2.ensures,
      c.if-outside-2.false,
    ) c.table.ensures
