-- The digits of a root: `root_of` by the number of smallest ones, scaled to a whole number whose root has 53 binary digits. Assumes nothing.
use Rattle.std.proofs.Common.{◌≡◌, ℕ, zero, suc, ◌+◌, ◌-◌, ◌*◌, ◌/◌, ◌^◌, ◌<◌, ◌≤◌, true, false, sym, refl, ap, ◌∙◌, true≢false, le_trans, mul-le-mul_right, mul-lt-mul_of_pos_right, mul-pos, pow-suc, lt_of_not-le, zero-mul, not-le_of_lt, mul-div_cancel, arith, pow_mono, pow-add, ne_eqb}
use native.Mathlib.Nat.{one-le-pow}
use lib.Ieee.{Float, nan, inf, fin, up, down, size, odd}
use lib.Ieee.Digits.{size-lt, size-le}
use lib.Ieee.Fits.{down_pos}
use lib.Ieee.Exact.{HasValue}
use Rattle.elementary.specs.Root.{near_root, root_units, root_of}

-- by the number of smallest ones
pub by_units : (x : Float) (a : ℕ) → HasValue x false a (2 ^ 1074) → 0 < a → root_of x ≡ root_units a
unfolding root_of
by_units nan a v h = elim v [ ]
by_units (inf _) a v h = elim v [ ]
by_units (fin true m e) a v h = absurd (true≢false v.0)
by_units (fin false m e) a v h = rw (ne_eqb m 0 some) (ap root_units (ap (λ z. z / down e) v.1 ∙ mul-div_cancel a (down_pos e)))
  where
    some : m ≡ 0 → ⊥
    some z =
        let p : 0 < a * down e = mul-pos h (down_pos e) in
        let q : 0 ≡ a * down e = sym (simp zero-mul) ∙ ap (λ k. k * up e * 2 ^ 1074) (sym z) ∙ v.1 in
        omega arith

pub four : (d : ℕ) → 4 ^ d ≡ 2 ^ (2 * d)
four zero = refl
four (suc d) = pow-suc 4 d ∙ ap (λ z. z * 4) (four d) ∙ sym (pow-add 2 (2 * d) 2) ∙ ap (λ z. 2 ^ z) (omega arith)

half_size : (n d : ℕ) → 4 ^ d ≤ n → n < 4 ^ d * 4 → (size n - 1) / 2 ≡ d
half_size n d lo hi =
    let p : size n ≤ 2 * d + 2 = size-le n (2 * d + 2) (rw (pow-add 2 (2 * d) 2, ← four d) hi) in
    let q : 2 * d < size n = lt_of_not-le (λ g. not-le_of_lt (size-lt n) (le_trans (pow_mono g) (rw (← four d) lo))) in
    omega arith

-- n is from 4^d up to 4^(d+1), and s is n · 4^52 / 4^d
pub units_by : (n s d : ℕ) → n * 4 ^ 52 ≡ s * 4 ^ d → 4 ^ 52 ≤ s → s < 4 ^ 53 → root_units n ≡ odd 53 false (near_root s) d 589
unfolding root_units
units_by n s d e lo hi =
    let p : 0 < 4 ^ d = one-le-pow d 4 (omega arith) in
    let h : (size n - 1) / 2 ≡ d = half_size n d (omega (arith, mul-le-mul_right (4 ^ d) lo)) (omega (arith, mul-lt-mul_of_pos_right hi p)) in
    ap (λ z. odd 53 false (near_root (n * 4 ^ 52 / 4 ^ z)) z 589) h ∙ ap (λ z. odd 53 false (near_root z) d 589) (ap (λ z. z / 4 ^ d) e ∙ mul-div_cancel s p)
