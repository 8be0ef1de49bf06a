-- `places::standings::standing_py` meets its contract: each return stands under the tests that led there. Assumes nothing.
use lib.Ieee.{round, of_bits, of_int}
use Rattle.arith.specs.Printed.{printed}
use Rattle.places.specs.Places.{place_py}
use Rattle.places.specs.Standing.{standing_of, standing_py}
use mathlib.Core.Path.{refl}
use Rattle.places.proofs.standings.standing_py.Goals as goal

pub returns-then-wild : goal.returns-then-wild
unfolding standing_py standing_of place_py printed round of_bits of_int
returns-then-wild c = rw (← c.wild.ensures, c.if-wild.true) refl

pub returns-then-outside : goal.returns-then-outside
unfolding standing_py standing_of place_py printed round of_bits of_int
returns-then-outside c = rw (← c.wild.ensures, c.if-wild.false, ← c.outside.ensures, c.if-outside.true) refl

pub returns : goal.returns
unfolding standing_py standing_of place_py printed round of_bits of_int
returns c =
    rw (
      ← c.wild.ensures,
      c.if-wild.false,
      ← c.outside.ensures,
      c.if-outside.false,
    ) c.ranged.ensures
