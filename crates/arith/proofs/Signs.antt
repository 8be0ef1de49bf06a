-- An f64 by the test `0.0 < x`, and a pattern by its fields: what the proofs of `log` cite of its branches. Assumes nothing.
use mathlib.Core.Path.{◌≡◌, refl, sym, ◌∙◌, subst}
use mathlib.Core.Bool.{Bool, true, false, not, cond, true≢false, false≢true}
use Prim.Native.Nat.{ℕ, zero, suc, ◌+◌, ◌*◌, ◌/◌, ◌%◌, ◌^◌, ◌≤◌, ◌<◌}
use native.Mathlib.Nat.{mul-pos, zero-lt-suc}
use native.Mathlib.Omega.{arith}
use lib.Dec.{T, leb, eqb, nleb→lt}
use lib.IntN.{ℤ, pos}
use lib.Ieee.{Float, nan, inf, fin, binary64, up, down, odd, lt, is_nan, of_fields, of_bits, to_bits, nan_bits, fits}
use lib.Ieee.Bits.{of_bits-to_bits, nan_bits_above}
use lib.Ieee.Fits.{up_pos}
use borrow.Author.Tests.{lt-ltb, le-ltb}

pub never : {b : Bool} {X : Type 0} → b ≡ true → b ≡ false → X
never p q = absurd (true≢false (sym p ∙ q))

abbrev pub zero64 : Float
zero64 = fin false 0 (pos 0)

-- an f64 is read from its own bits
pub own : (x : Float) → fits binary64 x ≡ true → of_bits binary64 (to_bits binary64 x) ≡ x
own x h = of_bits-to_bits binary64 x (subst T (sym h) tt)

-- 0.0 as the code has it, by its bits
pub plus_zero : of_bits binary64 0 ≡ zero64
unfolding of_bits
plus_zero = refl

pub above : (x : Float) → fits binary64 x ≡ true → lt (of_bits binary64 0) x ≡ true → lt zero64 (of_bits binary64 (to_bits binary64 x)) ≡ true
above x h t = rw (own x h, ← plus_zero) t

-- ---- what is above 0 is no NaN
pub no_nan : (x : Float) → lt zero64 x ≡ true → T (not (is_nan x))
unfolding lt is_nan
no_nan nan h = absurd (false≢true h)
no_nan (inf s) h = tt
no_nan (fin s m e) h = tt

pub no_nan_bits : (n : ℕ) → n ≤ 0x7ff0_0000_0000_0000 → T (not (nan_bits binary64 n))
no_nan_bits n h = rw (nan_bits_above binary64 n, le-ltb 0x7ff0_0000_0000_0000 (n % 2 ^ 63) (omega arith)) tt

-- ---- the test at a number
pub plus : (m : ℕ) (e : ℤ) → lt zero64 (fin false (suc m) e) ≡ true
unfolding lt
plus m e = lt-ltb (0 * 1 * down e) (suc m * up e * 1) (omega (arith, mul-pos (zero-lt-suc m) (up_pos e)))

-- ---- a pattern with the sign set stands for nothing above 0
minus_odd : (w q k l : ℕ) → lt zero64 (odd w true q k l) ≡ false
unfolding odd lt
minus_odd w zero k l = refl
minus_odd w (suc q) k l = refl

minus_top : (a b : Bool) (v : Float) → lt zero64 v ≡ false → lt zero64 (cond a (cond b (inf true) nan) v) ≡ false
unfolding lt
minus_top true true v h = refl
minus_top true false v h = refl
minus_top false b v h = h

minus_fields : (e t : ℕ) → lt zero64 (of_fields binary64 true e t) ≡ false
unfolding of_fields
minus_fields zero t = minus_odd 53 t 0 1074
minus_fields (suc e) t = minus_top (eqb (suc e) 2047) (eqb t 0) (odd 53 true (2 ^ 52 + t) e 1074) (minus_odd 53 (2 ^ 52 + t) e 1074)

-- ---- from 2047 · 2^52 on a pattern is an infinity's, a NaN's or has the sign set
top_is : (z : Bool) → lt zero64 (cond z (inf false) nan) ≡ true → cond z (inf false) nan ≡ inf false
unfolding lt
top_is true h = refl
top_is false h = absurd (false≢true h)

pub at_top : (b : ℕ) → 0x7ff0_0000_0000_0000 ≤ b → lt zero64 (of_bits binary64 b) ≡ true → of_bits binary64 b ≡ inf false
unfolding of_bits of_fields
at_top b h k = go (leb (2 ^ 63) b) (nleb→lt (2 ^ 63) b) k
  where
    go : (s : Bool) → (T (not s) → b < 2 ^ 63) → lt zero64 (of_fields binary64 s (b % 2 ^ 63 / 2 ^ 52) (b % 2 ^ 52)) ≡ true
        → of_fields binary64 s (b % 2 ^ 63 / 2 ^ 52) (b % 2 ^ 52) ≡ inf false
    go true l k = never k (minus_fields (b % 2 ^ 63 / 2 ^ 52) (b % 2 ^ 52))
    go false l k =
        let e : b % 2 ^ 63 / 2 ^ 52 ≡ 2047 = omega (arith, l tt) in
        rw e (top_is (eqb (b % 2 ^ 52) 0) (rw e at k))

-- so an f64 above 0 whose bits are there is plus infinity
pub plus_infinity : (x : Float) → fits binary64 x ≡ true → lt (of_bits binary64 0) x ≡ true → 0x7ff0_0000_0000_0000 ≤ to_bits binary64 x → x ≡ inf false
plus_infinity x f t h = sym (own x f) ∙ at_top (to_bits binary64 x) h (above x f t)
