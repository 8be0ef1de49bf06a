-- The bits of a power do not depend on which lower power it was formed from. So a power carried on from the one before and a power formed again from 1 are one
-- and the same, and no row of powers is needed to have its bits. Assumes nothing.
use mathlib.Core.Path.{◌≡◌, sym, ap, ◌∙◌}
use Prim.Native.Nat.{ℕ, zero, suc, ◌+◌}
use native.Mathlib.Omega.{arith}
use lib.IntN.{pos, negsuc}
use lib.Ieee.{Float}
use Rattle.arith.specs.F64.{f64, ◌⊗◌, ◌⊘◌}
use Rattle.arith.specs.Power.{raised, power_of, multiplied}

-- x^(i+k) is x^i and k products more
pub raised_from : (x : Float) (i k : ℕ) → multiplied x (raised x i) k ≡ raised x (i + k)
unfolding raised multiplied
raised_from x i zero =
    let e : i ≡ i + 0 = omega arith in
    ap (raised x) e
raised_from x i (suc k) =
    let e : suc (i + k) ≡ i + suc k = omega arith in
    ap (λ (y : Float). y ⊗ x) (raised_from x i k) ∙ ap (raised x) e

-- from any two lower powers it is the same
pub raised_from_any : (x : Float) (i k j l : ℕ) → i + k ≡ j + l → multiplied x (raised x i) k ≡ multiplied x (raised x j) l
raised_from_any x i k j l e = raised_from x i k ∙ ap (raised x) e ∙ sym (raised_from x j l)

-- formed again, it starts from 1
pub raised_again : (x : Float) (k : ℕ) → multiplied x (f64 1) k ≡ raised x k
unfolding raised
raised_again x k =
    let e : 0 + k ≡ k = omega arith in
    raised_from x 0 k ∙ ap (raised x) e

-- ---- the same of a power with a sign

pub power_from : (x : Float) (i k : ℕ) → multiplied x (power_of x (pos i)) k ≡ power_of x (pos (i + k))
unfolding power_of
power_from x i k = raised_from x i k

pub inverse_from : (x : Float) (i k : ℕ) → f64 1 ⊘ multiplied x (raised x i) (suc k) ≡ power_of x (negsuc (i + k))
unfolding power_of
inverse_from x i k =
    let e : i + suc k ≡ suc (i + k) = omega arith in
    ap (λ (y : Float). f64 1 ⊘ y) (raised_from x i (suc k) ∙ ap (raised x) e)
