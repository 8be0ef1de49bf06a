-- What the proofs of the powers cite: the step of the loop, and a signed exponent by its size. Assumes nothing.
use mathlib.Core.Path.{◌≡◌, refl}
use mathlib.Core.Bool.{true, false}
use Prim.Native.Nat.{ℕ, ◌+◌}
use native.Mathlib.Omega.{arith}
use native.Mathlib.Numerals.{add-one}
use borrow.Author.Tests.{ltb-true}
use lib.IntN.{ℤ, pos, negsuc, nat_abs}
use lib.Signed.{lt_z}
use lib.Ieee.{Float}
use Rattle.arith.specs.F64.{f64, ◌⊗◌, ◌⊘◌}
use Rattle.arith.specs.Power.{raised, power_of}

pub raised_step : {r : Float} (x : Float) (k : ℕ) → r ≡ raised x k → r ⊗ x ≡ raised x (k + 1)
unfolding raised
raised_step x k e = rw (add-one, e)

-- ---- x^k from x^|k|
pub power_below : (x : Float) (k : ℤ) → lt_z k (pos 0) ≡ true → f64 1 ⊘ raised x (nat_abs k) ≡ power_of x k
unfolding power_of
power_below x (pos a) h = absurd (omega (arith, ltb-true a 0 h))
power_below x (negsuc a) h = refl

pub power_above : (x : Float) (k : ℤ) → lt_z k (pos 0) ≡ false → raised x (nat_abs k) ≡ power_of x k
unfolding power_of
power_above x (pos a) h = refl
power_above x (negsuc a) h = cc
