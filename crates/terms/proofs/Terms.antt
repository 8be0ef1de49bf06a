-- What a row adds to a sum, from its factor and its two powers. Assumes nothing.
-- The code reads I and J through their bits, which the law knows as a y and a z.
use mathlib.Core.Path.{◌≡◌}
use mathlib.Core.Bool.{cond, ◌||◌}
use Prim.Native.Nat.{ℕ}
use lib.IntN.{ℤ, pos, ◌-ℤ◌}
use lib.Ieee.{Float}
use Rattle.arith.specs.F64.{◌⊕◌, ◌⊗◌}
use Rattle.arith.specs.Power.{power_of}
use Rattle.terms.specs.Sum.{row, scaled, gone, term, plus}

pub added : (da db : ℕ) (a b r n : Float) (i j : ℤ) {y z : ℤ} {q f u v : Float} → y ≡ i → z ≡ j → q ≡ cond (gone y da || gone z db) r (r ⊕ ((f ⊗ u) ⊗ v))
    → f ≡ scaled (scaled n y da) z db → u ≡ power_of a (y -ℤ pos da) → v ≡ power_of b (z -ℤ pos db) → q ≡ plus da db a b r (row i j n)
unfolding plus term
added da db a b r n i j g h e k l m = rw (e, k, l, m, g, h)
