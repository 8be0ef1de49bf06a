-- The logarithm: the m and e that are taken satisfy x = m · 2^e and 0.75 ≤ m < 1.5 (`parts_right`), and what the proofs of its functions cite. Assumes nothing.
use Rattle.std.proofs.Common.{◌≡◌, ℕ, zero, suc, ◌+◌, ◌-◌, ◌*◌, ◌/◌, ◌^◌, ◌<◌, ◌≤◌, Bool, true, false, not, T, leb, sym, refl, ap, ◌∙◌, subst, true≢false, le_trans, lt_of_lt_of_le, add-zero, le_of_lt, mul-le-mul_right, mul_assoc, lt_of_mul-lt-mul_right, mul-le-mul_left, lt_of_not-le, zero-mul, mul_right_comm, not-le_of_lt, le_of_mul-le-mul_right, mul-div_cancel, add-one, arith, leb→le, pow_pos, pow_mono, pow-add, shl_lt, le-ltb, lt-ltb}
use native.Mathlib.Nat.{zero-div}
use lib.Dec.{nleb→lt}
use lib.Ieee.{Float, nan, inf, fin, binary64, odd, round, of_int, of_bits, minus, size, up, down, fits, lt}
use lib.Ieee.Digits.{back, minus_val, size-lt, size-le, size_reaches}
use lib.Ieee.Fits.{down_pos, odd-fits}
use lib.Ieee.Exact.{HasValue, odd_sign}
use Rattle.arith.specs.F64.{f64, ◌⊕◌, ◌⊖◌, ◌⊗◌, ◌⊘◌}
use Rattle.elementary.specs.Log.{ln2, series, log_sum, parts_at, parts_of, Split, log_units, log_of}
use Rattle.arith.specs.Printed.{printed}
use Rattle.arith.proofs.Literals.{one_is, two_is}
use Rattle.arith.proofs.Signs.{zero64, never, plus}
use Rattle.elementary.proofs.Units.{read, odd_shift, Counted, counted}

-- the code's literals
pub twenty_three_is : of_bits binary64 0x4037_0000_0000_0000 ≡ f64 23
unfolding of_bits of_int
twenty_three_is = refl

pub ln2_is : of_bits binary64 0x3fe6_2e42_fefa_39ef ≡ ln2
unfolding of_bits ln2 printed round
ln2_is = refl

-- ---- the series and the sum
pub series_step : {t : Float} (q : Float) (j : ℕ) → t ≡ series q j → t ⊗ q ⊕ of_bits binary64 0x3ff0_0000_0000_0000 ⊘ f64 (21 - 2 * j) ≡ series q (j + 1)
unfolding series
series_step q j e = rw (add-one, one_is, e)

pub sum_is : {z t : Float} (m e : Float) → z ≡ (m ⊖ of_bits binary64 0x3ff0_0000_0000_0000) ⊘ (m ⊕ of_bits binary64 0x3ff0_0000_0000_0000) → t ≡ series (z ⊗ z) 11
    → e ⊗ of_bits binary64 0x3fe6_2e42_fefa_39ef ⊕ (of_bits binary64 0x4000_0000_0000_0000 ⊗ z) ⊗ t ≡ log_sum m e
unfolding log_sum
sum_is m e p q = rw (q, p, one_is, two_is, ln2_is)

-- ---- by the number of smallest ones
by_units : (x : Float) (a : ℕ) → HasValue x false a (2 ^ 1074) → log_of x ≡ log_units a
unfolding log_of
by_units nan a v = elim v [ ]
by_units (inf _) a v = elim v [ ]
by_units (fin true m e) a v = absurd (true≢false v.0)
by_units (fin false m e) a v = ap log_units (ap (λ z. z / down e) v.1 ∙ mul-div_cancel a (down_pos e))

-- the digits that f · 2^k has beyond 53, where f has 53
dropped : (f k : ℕ) → 2 ^ 52 ≤ f → f < 2 ^ 53 → size (f * 2 ^ k) - 53 ≡ k
dropped f k lo hi =
    let p : size (f * 2 ^ k) ≤ 53 + k = size-le (f * 2 ^ k) (53 + k) (shl_lt 53 k hi) in
    let q : 52 + k < size (f * 2 ^ k) = lt_of_not-le (λ g. not-le_of_lt (size-lt (f * 2 ^ k)) (le_trans (pow_mono g) (rw (pow-add 2 52 k) (mul-le-mul_right (2 ^ k) lo)))) in
    omega arith

parts_are : (f k : ℕ) → 2 ^ 52 ≤ f → f < 2 ^ 53 → parts_of (f * 2 ^ k) ≡ parts_at f k
unfolding parts_of
parts_are f k lo hi = ap (λ z. parts_at (f * 2 ^ k / 2 ^ z) z) (dropped f k lo hi) ∙ ap (λ z. parts_at z k) (mul-div_cancel f (pow_pos k))

normal : (f k : ℕ) → 2 ^ 52 ≤ f → 2 ^ 52 ≤ f * 2 ^ k
normal f k lo =
    let p : f * 1 ≤ f * 2 ^ k = mul-le-mul_left f (pow_pos k) in
    omega arith

-- x by its bits b: f · 2^k smallest ones
pub log_small : (b : ℕ) → b < 2 ^ 52 → log_of (of_bits binary64 b) ≡ nan
unfolding log_units
log_small b h =
    ap log_of (read b 0 b (omega arith) (omega arith) (omega arith)) ∙ by_units (odd 53 false b 0 1074) (b * 2 ^ 0) (odd_sign 53 false b 0 1074) ∙ rw (lt-ltb (b * 2 ^ 0) (2 ^ 52) (omega arith))

pub log_parts : (b k f : ℕ) → b < 0x7ff0_0000_0000_0000 → 2 ^ 52 ≤ b → k ≡ b / 2 ^ 52 - 1 → f ≡ b - k * 2 ^ 52 → log_of (of_bits binary64 b) ≡ log_sum (parts_at f k).m (of_int binary64 (parts_at f k).e)
unfolding log_units
log_parts b k f h l p q =
    let lo : 2 ^ 52 ≤ f = omega arith in
    let hi : f < 2 ^ 53 = omega arith in
    ap log_of (read b k f h p q)
    ∙ by_units (odd 53 false f k 1074) (f * 2 ^ k) (odd_sign 53 false f k 1074)
    ∙ rw (le-ltb (f * 2 ^ k) (2 ^ 52) (normal f k lo)) (ap (λ z. log_sum z.m (of_int binary64 z.e)) (parts_are f k lo hi))

module _ (f k : ℕ) where
  pub parts_under : 2 * f < 3 * 2 ^ 52 → parts_at f k ≡ record { m = odd 53 false f 0 52; e = minus k 1022 }
  unfolding parts_at
  parts_under l = rw (lt-ltb (2 * f) (3 * 2 ^ 52) l)

  pub parts_over : 3 * 2 ^ 52 ≤ 2 * f → parts_at f k ≡ record { m = odd 53 false f 0 53; e = minus k 1021 }
  unfolding parts_at
  parts_over l = rw (le-ltb (2 * f) (3 * 2 ^ 52) l)

-- the significand as the code makes it: the digits t under an exponent's field c + 1
pub made : (c l t : ℕ) → t < 2 ^ 52 → c < 2046 → c + l ≡ 1074 → of_bits binary64 (suc c * 2 ^ 52 + t) ≡ odd 53 false (2 ^ 52 + t) 0 l
made c l t h m e =
    read (suc c * 2 ^ 52 + t) c (2 ^ 52 + t) (omega arith) (omega arith) (omega arith) ∙ sym (odd_shift c 53 (2 ^ 52 + t) 0 l ∙ placed)
  where
    placed : odd 53 false (2 ^ 52 + t) (c + 0) (c + l) ≡ odd 53 false (2 ^ 52 + t) c 1074
    placed = rw (add-zero, e)

-- ---- what has no logarithm
log_zero : log_units 0 ≡ nan
unfolding log_units
log_zero = refl

pub no_log : (x : Float) → lt zero64 x ≡ false → log_of x ≡ nan
unfolding lt log_of
no_log nan h = refl
no_log (inf s) h = refl
no_log (fin true m e) h = refl
no_log (fin false zero e) h = ap log_units (ap (λ z. z / down e) (simp zero-mul) ∙ zero-div (down e)) ∙ log_zero
no_log (fin false (suc m) e) h = never (plus m e) h

pub log_infinity : log_of (inf false) ≡ nan
unfolding log_of
log_infinity = refl

-- ---- the law: x = m · 2^e and 0.75 ≤ m < 1.5

-- a normal f64's number of smallest ones is f · 2^k with 53 binary digits in f
record Leading (n : ℕ) : Type 0 where
  pub f : ℕ
  pub k : ℕ
  pub least : 2 ^ 52 ≤ f
  pub most : f < 2 ^ 53
  pub count : n ≡ f * 2 ^ k

leading : (n : ℕ) → Counted n → 2 ^ 52 ≤ n → Leading n
leading n w l =
    let k = size n - 53 in
    let fit : size n ≤ 53 + w.j = size-le n (53 + w.j) (rw w.count (shl_lt 53 w.j w.short)) in
    let large : 52 < size n = lt_of_not-le (λ g. not-le_of_lt (size-lt n) (le_trans (pow_mono {i = size n} {j = 52} g) l)) in
    let less : k ≤ w.j = omega arith in
    let f = w.g * 2 ^ (w.j - k) in
    let same : n ≡ f * 2 ^ k = w.count ∙ ap (λ z. w.g * 2 ^ z) (sym (back w.j k less)) ∙ ap (λ z. w.g * z) (pow-add 2 (w.j - k) k) ∙ sym (mul_assoc w.g (2 ^ (w.j - k)) (2 ^ k)) in
    let low : 2 ^ 52 * 2 ^ k ≤ f * 2 ^ k = rw (← same, ← pow-add 2 52 k) (size_reaches n (52 + k) (omega arith)) in
    let high : f * 2 ^ k < 2 ^ 53 * 2 ^ k = rw (← same, ← pow-add 2 53 k) (lt_of_lt_of_le (size-lt n) (pow_mono {i = size n} {j = 53 + k} (omega arith))) in
    record { f = f; k = k; least = le_of_mul-le-mul_right {k = 2 ^ k} low (pow_pos k); most = lt_of_mul-lt-mul_right (2 ^ k) high; count = same }

-- f / 2^l for an l of 52 or 53: an f64, which is f · 2^(53-l) / 2^53
held : (f c l : ℕ) → f < 2 ^ 53 → c ≤ 1022 → c + l ≡ 1074 → T (fits binary64 (odd 53 false f 0 l))
held f c l h m e =
    subst (λ z. T (fits binary64 z)) (sym (odd_shift c 53 f 0 l ∙ rw (add-zero, e)))
    (odd-fits binary64 53 false f c h (le_of_lt h) (lt_of_lt_of_le (shl_lt 53 c h) (pow_mono {i = 53 + c} {j = 2098} (omega arith))))

-- n · down e · 2^53 from n = f · 2^k and e = k - l
weighed : (f k l c : ℕ) → l + 53 ≡ c + 1074 → f * 2 ^ k * down (minus k l) * 2 ^ 53 ≡ f * 2 ^ c * up (minus k l) * 2 ^ 1074
weighed f k l c e =
    ap (λ z. z * 2 ^ 53) (sym (minus_val f k l))
    ∙ mul_assoc (f * up (minus k l)) (2 ^ l) (2 ^ 53)
    ∙ ap (λ z. f * up (minus k l) * z) (sym (pow-add 2 l 53) ∙ ap (λ z. 2 ^ z) e ∙ pow-add 2 c 1074)
    ∙ sym (mul_assoc (f * up (minus k l)) (2 ^ c) (2 ^ 1074))
    ∙ ap (λ z. z * 2 ^ 1074) (mul_right_comm f (up (minus k l)) (2 ^ c))

split_at : (f k : ℕ) → 2 ^ 52 ≤ f → f < 2 ^ 53 → Split (f * 2 ^ k) (parts_at f k)
split_at f k lo hi = go (leb (3 * 2 ^ 52) (2 * f)) (leb→le (3 * 2 ^ 52) (2 * f)) (nleb→lt (3 * 2 ^ 52) (2 * f))
  where
    go : (b : Bool) → (T b → 3 * 2 ^ 52 ≤ 2 * f) → (T (not b) → 2 * f < 3 * 2 ^ 52) → Split (f * 2 ^ k) (parts_at f k)
    go true over under = subst (λ p. Split (f * 2 ^ k) p) (sym (parts_over f k (over tt))) (record {
      a = f * 2 ^ 0;
      value = odd_sign 53 false f 0 53;
      held = held f 1021 53 hi (omega arith) refl;
      least = omega (arith, over tt);
      most = omega arith;
      same = weighed f k 1021 0 refl;
    })
    go false over under = subst (λ p. Split (f * 2 ^ k) p) (sym (parts_under f k (under tt))) (record {
      a = f * 2 ^ 1;
      value = subst (λ z. HasValue z false (f * 2 ^ 1) (2 ^ 53)) (sym (odd_shift 1 53 f 0 52)) (odd_sign 53 false f 1 53);
      held = held f 1022 52 hi (omega arith) refl;
      least = omega arith;
      most = omega (arith, under tt);
      same = weighed f k 1022 1 refl;
    })

pub parts_right : (x : Float) (n : ℕ) → T (fits binary64 x) → HasValue x false n (2 ^ 1074) → 2 ^ 52 ≤ n → Split n (parts_of n)
parts_right x n t v h =
    let w = leading n (counted x n t v) h in
    subst (λ z. Split z (parts_of z)) (sym w.count) (subst (λ p. Split (w.f * 2 ^ w.k) p) (sym (parts_are w.f w.k w.least w.most)) (split_at w.f w.k w.least w.most))
