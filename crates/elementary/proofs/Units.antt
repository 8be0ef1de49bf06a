-- An f64 counted in smallest ones, 2^-1074: read from its bits, by at most 53 binary digits, and fixed by the count alone. Assumes nothing.
use Rattle.std.proofs.Common.{◌≡◌, ℕ, zero, suc, ◌+◌, ◌-◌, ◌*◌, ◌/◌, ◌%◌, ◌^◌, ◌<◌, ◌≤◌, Bool, true, false, cond, not, ◌&&◌, T, eqb, ltb, leb, ◌⊎◌, ℤ, pos, negsuc, sym, refl, ap, ◌∙◌, subst, inl, inr, true≢false, le_trans, le_of_suc-le-suc, le_of_lt, add_assoc, mul_assoc, lt_of_mul-lt-mul_right, mul-lt-mul_of_pos_right, lt_of_not-le, zero-mul, mul-one, mul_right_comm, not-le_of_lt, mul-div_cancel, arith, ltb→lt, leb→le, pow_pos, pow_mono, pow-add, shl_lt, ne_eqb, le-leb}
use native.Mathlib.Nat.{eq_of_mul-eq-mul_right}
use lib.Dec.{nleb→lt}
use lib.Count.{count_trailing_zeros}
use lib.Pow.{pow-lt}
use lib.Ieee.{Float, nan, inf, fin, binary64, up, down, minus, size, odd, fits, of_fields, of_bits, to_bits}
use lib.Ieee.Bits.{of_bits-to_bits}
use lib.Ieee.Digits.{back}
use lib.Ieee.Fits.{down_pos, and_l, and_r}
use lib.Ieee.Exact.{HasValue}
use borrow.Author.Tests.{lt-leb}

-- ---- a pattern of a finite number with the sign clear stands for f · 2^k smallest ones
same : (q q' k k' : ℕ) → q ≡ q' → k ≡ k' → odd 53 false q k 1074 ≡ odd 53 false q' k' 1074
same q q' k k' p h = cc

fields : (e t k f : ℕ) → e < 2047 → k ≡ e - 1 → f ≡ e * 2 ^ 52 + t - k * 2 ^ 52 → of_fields binary64 false e t ≡ odd 53 false f k 1074
unfolding of_fields
fields zero t k f h p q = same t f 0 k (omega arith) (omega arith)
fields (suc x) t k f h p q = rw (ne_eqb (suc x) 2047 (λ z. omega arith)) (same (2 ^ 52 + t) f x k (omega arith) (omega arith))

pub read : (b k f : ℕ) → b < 0x7ff0_0000_0000_0000 → k ≡ b / 2 ^ 52 - 1 → f ≡ b - k * 2 ^ 52 → of_bits binary64 b ≡ odd 53 false f k 1074
unfolding of_bits
read b k f h p q =
    let e : b % 2 ^ 63 / 2 ^ 52 ≡ b / 2 ^ 52 = omega arith in
    rw (lt-leb (2 ^ 63) b (omega arith), e) (fields (b / 2 ^ 52) (b % 2 ^ 52) k f (omega arith) p (omega arith))

-- ---- r · 2^d / 2^l is r · 2^(c+d) / 2^(c+l)
minus_shift : (c a l : ℕ) → minus a l ≡ minus (c + a) (c + l)
minus_shift c a l = go (leb l a) (leb→le l a) (nleb→lt l a)
  where
    go : (b : Bool) → (T b → l ≤ a) → (T (not b) → a < l) → cond b (pos (a - l)) (negsuc (l - suc a)) ≡ minus (c + a) (c + l)
    go true h k = rw (le-leb (c + l) (c + a) (omega (arith, h tt))) (ap pos (omega arith))
    go false h k = rw (lt-leb (c + l) (c + a) (omega (arith, k tt))) (ap negsuc (omega arith))

pub odd_shift : (c w r d l : ℕ) → odd w false r d l ≡ odd w false r (c + d) (c + l)
unfolding odd
odd_shift c w zero d l = refl
odd_shift c w (suc r) d l =
    let t = count_trailing_zeros w (suc r) in
    ap (fin false (suc r / 2 ^ t)) (minus_shift c (d + t) l ∙ ap (λ z. minus z (c + l)) (sym (add_assoc c d t)))

-- ---- an f64 that is not negative is g · 2^j smallest ones, with at most 53 binary digits in g
cut : (m : ℕ) (e : ℤ) (c : ℕ) → down e ≤ 2 ^ 1074 → m * up e * 2 ^ 1074 ≡ c * down e → (j : ℕ) × (c ≡ m * 2 ^ j)
cut m (pos a) c h v = (a + 1074, sym (mul-one c) ∙ sym v ∙ mul_assoc m (2 ^ a) (2 ^ 1074) ∙ ap (λ z. m * z) (sym (pow-add 2 a 1074)))
cut m (negsuc a) c h v =
    let l : suc a ≤ 1074 = le_of_suc-le-suc (lt_of_not-le (λ g. not-le_of_lt (pow-lt g) h)) in (
      1074 - suc a,
      eq_of_mul-eq-mul_right (2 ^ suc a) (pow_pos (suc a)) c (m * 2 ^ (1074 - suc a))
          (sym v ∙ ap (λ z. z * 2 ^ 1074) (mul-one m) ∙ ap (λ z. m * 2 ^ z) (sym (back 1074 (suc a) l)) ∙ ap (λ z. m * z) (pow-add 2 (1074 - suc a) (suc a)) ∙ sym (mul_assoc m (2 ^ (1074 - suc a)) (2 ^ suc a))),
    )

pub record Counted (c : ℕ) : Type 0 where
  pub g : ℕ
  pub j : ℕ
  pub short : g < 2 ^ 53
  pub count : c ≡ g * 2 ^ j
  pub bounded : c < 2 ^ 2098

pub counted : (z : Float) (c : ℕ) → T (fits binary64 z) → HasValue z false c (2 ^ 1074) → Counted c
unfolding fits
counted nan c t v = elim v [ ]
counted (inf _) c t v = elim v [ ]
counted (fin s zero e) c t v =
    let none : c ≡ 0 = eq_of_mul-eq-mul_right (down e) (down_pos e) c 0 (sym v.1 ∙ simp zero-mul) in
    record { g = 0; j = 0; short = pow_pos 53; count = none; bounded = rw none (pow_pos 2098) }
counted (fin s (suc m) e) c t v =
    let A = eqb (suc m % 2) 1 in
    let B = ltb (suc m) (2 ^ 53) in
    let C = leb (down e) (2 ^ 1074) in
    let D = ltb (suc m * up e) (2 ^ 1024 * down e) in
    let k = cut (suc m) e c (leb→le (down e) (2 ^ 1074) (and_r (A && B) C (and_l (A && B && C) D t))) v.1 in
    let most : suc m * up e * 2 ^ 1074 < 2 ^ 1024 * down e * 2 ^ 1074 = mul-lt-mul_of_pos_right (ltb→lt (suc m * up e) (2 ^ 1024 * down e) (and_r (A && B && C) D t)) (pow_pos 1074) in
    record {
      g = suc m;
      j = k.0;
      short = ltb→lt (suc m) (2 ^ 53) (and_r A B (and_l (A && B) C (and_l (A && B && C) D t)));
      count = k.1;
      bounded = lt_of_mul-lt-mul_right (down e) (subst (λ z. z < 2 ^ 2098 * down e) v.1 (subst (λ z. suc m * up e * 2 ^ 1074 < z) (mul_right_comm (2 ^ 1024) (down e) (2 ^ 1074) ∙ ap (λ z. z * down e) (sym (pow-add 2 1024 1074))) most));
    }

-- so it is a multiple of 2^q, or no more than 2^52 · 2^q
pub place : (c q : ℕ) → Counted c → ((h : ℕ) × (c ≡ h * 2 ^ q)) ⊎ (c ≤ 2 ^ 52 * 2 ^ q)
place c q w = go (leb q w.j) (leb→le q w.j) (nleb→lt q w.j)
  where
    go : (b : Bool) → (T b → q ≤ w.j) → (T (not b) → w.j < q) → ((h : ℕ) × (c ≡ h * 2 ^ q)) ⊎ (c ≤ 2 ^ 52 * 2 ^ q)
    go true a b = inl (w.g * 2 ^ (w.j - q), w.count ∙ ap (λ z. w.g * 2 ^ z) (sym (back w.j q (a tt))) ∙ ap (λ z. w.g * z) (pow-add 2 (w.j - q) q) ∙ sym (mul_assoc w.g (2 ^ (w.j - q)) (2 ^ q)))
    go false a b = inr (rw (w.count, ← pow-add 2 52 q) (le_trans (le_of_lt (shl_lt 53 w.j w.short)) (pow_mono {i = 53 + w.j} {j = 52 + q} (omega (arith, b tt)))))

-- ---- two f64 of the same count are the same
bits_of : ℕ → ℕ
bits_of n = let k = size n - 53 in 0 + k * 2 ^ 52 + n / 2 ^ k

bits_are : (x : Float) (a : ℕ) → HasValue x false a (2 ^ 1074) → to_bits binary64 x ≡ bits_of a
unfolding to_bits bits_of
bits_are nan a v = elim v [ ]
bits_are (inf _) a v = elim v [ ]
bits_are (fin true m e) a v = absurd (true≢false v.0)
bits_are (fin false m e) a v = ap (λ n. bits_of n) (ap (λ z. z / down e) v.1 ∙ mul-div_cancel a (down_pos e))

pub value_unique : (x y : Float) (a : ℕ) → T (fits binary64 x) → T (fits binary64 y) → HasValue x false a (2 ^ 1074) → HasValue y false a (2 ^ 1074) → x ≡ y
value_unique x y a f g v w =
    sym (of_bits-to_bits binary64 x f) ∙ ap (of_bits binary64) (bits_are x a v ∙ sym (bits_are y a w)) ∙ of_bits-to_bits binary64 y g
