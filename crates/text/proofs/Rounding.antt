-- An f64 of at most 2^53 in size, by its bits, and the whole number nearest a multiple of it. `nearest` says what nearest means. Assumes nothing.
use mathlib.Core.Path.{◌≡◌, refl, sym, ap, ◌∙◌}
use mathlib.Core.Bool.{Bool, true, false, not, cond, true≢false}
use mathlib.Core.List.{[], ◌∷◌}
use Prim.Native.Nat.{ℕ, zero, suc, ◌+◌, ◌-◌, ◌*◌, ◌/◌, ◌%◌, ◌^◌, ◌≤◌, ◌<◌}
use native.Mathlib.Nat.{le_trans, le_of_eq, lt_of_le_of_lt, not-le_of_lt, lt_of_mul-lt-mul_right, div-eq_of_lt, div-add-mod', mod-lt, pow-suc}
use native.Mathlib.Nat.{add-mul, one-mul, mul_comm, mul_assoc, mul_left_comm, mul_right_comm, mul-mul-mul_comm, mul-le-mul_left, mul-le-mul_right, mul-lt-mul_of_pos_right, mul-div-mul_left}
use native.Mathlib.Omega.{arith}
use lib.Dec.{T, leb, eqb, leb→le, nleb→lt}
use lib.Pow.{pow-add, pow_pos, pow_mono, shl_exact}
use lib.Ieee.{Float, nan, inf, fin, binary64, up, down, odd, of_fields, of_bits}
use lib.Ieee.Positive.{num, den, den_pos}
use lib.Ieee.Exact.{HasValue, odd_sign}
use lib.Ieee.Nearest.{div_same}
use borrow.Author.Tests.{ltb-true, ne_eqb}
use Rattle.text.specs.Decimals.{nearest_of, scaled_of, sign_of, modest}

-- ---- nearest: a / b lies from half below it up to half above, that end left out
pub nearest : (a b : ℕ) → 0 < b → (2 * (nearest_of a b * b) ≤ 2 * a + b) × (2 * a < 2 * (nearest_of a b * b) + b)
unfolding nearest_of
nearest a b h =
    let n = (2 * a + b) / (2 * b) in
    let e : n * (2 * b) + (2 * a + b) % (2 * b) ≡ 2 * a + b = div-add-mod' (2 * a + b) (2 * b) in
    let l : (2 * a + b) % (2 * b) < 2 * b = mod-lt (2 * a + b) (omega arith) in
    let m : n * (2 * b) ≡ 2 * (n * b) = mul_left_comm n 2 b in
    (omega arith, omega arith)

-- equal fractions have the same
nearest_same : (a b c d : ℕ) → 0 < b → 0 < d → a * d ≡ c * b → nearest_of a b ≡ nearest_of c d
unfolding nearest_of
nearest_same a b c d B D e =
    div_same (2 * a + b) (2 * b) (2 * c + d) (2 * d) (omega arith) (omega arith)
    (omega (
      arith,
      add-mul (2 * a) b (2 * d),
      mul-mul-mul_comm 2 a 2 d,
      mul_left_comm b 2 d,
      add-mul (2 * c) d (2 * b),
      mul-mul-mul_comm 2 c 2 b,
      mul_left_comm d 2 b,
      mul_comm b d,
    ))

-- over a power of two: as the code works it
pub halved : (q j : ℕ) → (q + 2 ^ j / 2) / 2 ^ j ≡ nearest_of q (2 ^ j)
unfolding nearest_of
halved q zero = omega arith
halved q (suc i) =
    let e : 2 ^ suc i ≡ 2 * 2 ^ i = pow-suc 2 i ∙ mul_comm (2 ^ i) 2 in
    let h : 2 ^ suc i / 2 ≡ 2 ^ i = omega arith in
    let s : 2 * q + 2 ^ suc i ≡ 2 * (q + 2 ^ i) = omega arith in
    ap (λ z. (q + z) / 2 ^ suc i) h ∙ sym (ap (λ z. z / (2 * 2 ^ suc i)) s ∙ mul-div-mul_left (q + 2 ^ i) (2 ^ suc i) (omega arith))

-- ---- of an x that is a / c in size
cross : (x : Float) (s : Bool) (a c : ℕ) → HasValue x s a c → num x * c ≡ a * den x
cross nan s a c h = absurd h
cross (inf t) s a c h = absurd h
cross (fin t m e) s a c h = h.1

scaled_value : (x : Float) (s : Bool) (a c S : ℕ) → 0 < c → HasValue x s a c → scaled_of S x ≡ nearest_of (a * S) c
unfolding scaled_of
scaled_value x s a c S h v =
    nearest_same (num x * S) (den x) (a * S) c (den_pos x) h
    (mul_right_comm (num x) S c ∙ ap (λ z. z * S) (cross x s a c v) ∙ mul_right_comm a (den x) S)

-- f · 2^k / 2^(k + j) is f / 2^j
scaled_high : (x : Float) (s : Bool) (f k j l S : ℕ) → k + j ≡ l → HasValue x s (f * 2 ^ k) (2 ^ l) → scaled_of S x ≡ nearest_of (f * S) (2 ^ j)
scaled_high x s f k j l S e v =
    scaled_value x s (f * 2 ^ k) (2 ^ l) S (pow_pos l) v
    ∙ nearest_same (f * 2 ^ k * S) (2 ^ l) (f * S) (2 ^ j) (pow_pos l) (pow_pos j)
    (ap (λ z. z * 2 ^ j) (mul_right_comm f (2 ^ k) S) ∙ mul_assoc (f * S) (2 ^ k) (2 ^ j) ∙ ap (λ z. f * S * z) (sym (pow-add 2 k j) ∙ ap (λ z. 2 ^ z) e))

-- what is below 2^53 / 2^64 gives 0
scaled_low : (x : Float) (s : Bool) (f k l S : ℕ) → f < 2 ^ 53 → S ≤ 1000 → 64 + k ≤ l → HasValue x s (f * 2 ^ k) (2 ^ l) → scaled_of S x ≡ 0
unfolding nearest_of
scaled_low x s f k l S F H K v = scaled_value x s (f * 2 ^ k) (2 ^ l) S (pow_pos l) v ∙ nothing
  where
    small : 2 * (f * 2 ^ k * S) < 2 ^ l
    small =
        let p = 2 ^ k in
        let a : f * p * S ≤ f * p * 1000 = mul-le-mul_left (f * p) H in
        let b : f * p < 2 ^ 53 * p = mul-lt-mul_of_pos_right F (pow_pos k) in
        let c : 2 ^ 64 * p ≤ 2 ^ l = le_trans (le_of_eq (sym (pow-add 2 64 k))) (pow_mono K) in
        omega arith

    nothing : nearest_of (f * 2 ^ k * S) (2 ^ l) ≡ 0
    nothing = div-eq_of_lt (omega (arith, small))

-- what is below 2^53 has no larger power
power_bound : (x : Float) (s : Bool) (f k l : ℕ) → 2 ^ 52 ≤ f → HasValue x s (f * 2 ^ k) (2 ^ l) → num x < 2 ^ 53 * den x → k ≤ l
power_bound x s f k l F v h =
    let a : num x * 2 ^ l < 2 ^ 53 * den x * 2 ^ l = mul-lt-mul_of_pos_right h (pow_pos l) in
    let b : f * 2 ^ k * den x < 2 ^ 53 * 2 ^ l * den x = rw (← cross x s (f * 2 ^ k) (2 ^ l) v, mul_right_comm (2 ^ 53) (2 ^ l) (den x)) a in
    let c : f * 2 ^ k < 2 ^ 53 * 2 ^ l = lt_of_mul-lt-mul_right (den x) b in
    let d : 2 ^ 52 * 2 ^ k ≤ f * 2 ^ k = mul-le-mul_right (2 ^ k) F in
    let g : 2 ^ (52 + k) < 2 ^ (53 + l) = rw (pow-add 2 52 k, pow-add 2 53 l) (lt_of_le_of_lt d c) in
    go (leb k l) (leb→le k l) (nleb→lt k l) g
  where
    go : (b : Bool) → (T b → k ≤ l) → (T (not b) → l < k) → 2 ^ (52 + k) < 2 ^ (53 + l) → k ≤ l
    go true p q g = p tt
    go false p q g = absurd (not-le_of_lt g (pow_mono {i = 53 + l} {j = 52 + k} (omega (arith, q tt))))

-- ---- of an x by its sign, its exponent's field e and the digits t below the leading one

fields_high : (s : Bool) (e t S : ℕ) → 1012 ≤ e → e ≤ 1075 → scaled_of S (of_fields binary64 s e t) ≡ nearest_of ((2 ^ 52 + t) * S) (2 ^ (1075 - e))
unfolding of_fields
fields_high s zero t S l h = absurd (omega arith)
fields_high s (suc k) t S l h =
    rw (ne_eqb (suc k) 2047 (λ z. omega arith))
    (scaled_high (odd 53 s (2 ^ 52 + t) k 1074) s (2 ^ 52 + t) k (1075 - suc k) 1074 S (omega arith) (odd_sign 53 s (2 ^ 52 + t) k 1074))

fields_low : (s : Bool) (e t S : ℕ) → e < 1012 → t < 2 ^ 52 → S ≤ 1000 → scaled_of S (of_fields binary64 s e t) ≡ 0
unfolding of_fields
fields_low s zero t S h T H = scaled_low (odd 53 s t 0 1074) s t 0 1074 S (omega arith) H (omega arith) (odd_sign 53 s t 0 1074)
fields_low s (suc k) t S h T H =
    rw (ne_eqb (suc k) 2047 (λ z. omega arith))
    (scaled_low (odd 53 s (2 ^ 52 + t) k 1074) s (2 ^ 52 + t) k 1074 S (omega arith) H (omega arith) (odd_sign 53 s (2 ^ 52 + t) k 1074))

-- what is modest is no infinity and no NaN, and below 2^53
within : (x : Float) → modest x ≡ true → num x < 2 ^ 53 * den x
unfolding modest
within nan h = absurd (true≢false (sym h))
within (inf s) h = absurd (true≢false (sym h))
within (fin s m e) h = ltb-true (m * up e) (2 ^ 53 * down e) h

no_end : (s z : Bool) → modest (cond z (inf s) nan) ≡ true → ⊥
unfolding modest
no_end s true h = true≢false (sym h)
no_end s false h = true≢false (sym h)

fields_bound : (s : Bool) (e t : ℕ) → modest (of_fields binary64 s e t) ≡ true → e ≤ 1075
unfolding of_fields
fields_bound s zero t h = omega arith
fields_bound s (suc k) t h = go (eqb (suc k) 2047) h
  where
    go : (b : Bool) → modest (cond b (cond (eqb t 0) (inf s) nan) (odd 53 s (2 ^ 52 + t) k 1074)) ≡ true → suc k ≤ 1075
    go true h = absurd (no_end s (eqb t 0) h)
    go false h =
        let x = odd 53 s (2 ^ 52 + t) k 1074 in
        omega (arith, power_bound x s (2 ^ 52 + t) k 1074 (omega arith) (odd_sign 53 s (2 ^ 52 + t) k 1074) (within x h))

sign_odd : (s : Bool) (f k : ℕ) → sign_of (odd 53 s f k 1074) ≡ cond s (45 ∷ []) []
unfolding sign_of odd
sign_odd s zero k = refl
sign_odd s (suc f) k = refl

fields_sign : (s : Bool) (e t : ℕ) → e ≤ 1075 → sign_of (of_fields binary64 s e t) ≡ cond s (45 ∷ []) []
unfolding of_fields
fields_sign s zero t h = sign_odd s t 0
fields_sign s (suc k) t h = rw (ne_eqb (suc k) 2047 (λ z. omega arith)) (sign_odd s (2 ^ 52 + t) k)

-- ---- of an x by its bits

pub bits_high : (b S : ℕ) → 1012 ≤ b % 2 ^ 63 / 2 ^ 52 → b % 2 ^ 63 / 2 ^ 52 ≤ 1075
    → scaled_of S (of_bits binary64 b) ≡ nearest_of ((2 ^ 52 + b % 2 ^ 52) * S) (2 ^ (1075 - b % 2 ^ 63 / 2 ^ 52))
unfolding of_bits
bits_high b S l h = fields_high (leb (2 ^ 63) b) (b % 2 ^ 63 / 2 ^ 52) (b % 2 ^ 52) S l h

pub bits_low : (b S : ℕ) → b % 2 ^ 63 / 2 ^ 52 < 1012 → S ≤ 1000 → scaled_of S (of_bits binary64 b) ≡ 0
unfolding of_bits
bits_low b S h H = fields_low (leb (2 ^ 63) b) (b % 2 ^ 63 / 2 ^ 52) (b % 2 ^ 52) S h (omega arith) H

pub bits_bound : (b : ℕ) → modest (of_bits binary64 b) ≡ true → b % 2 ^ 63 / 2 ^ 52 ≤ 1075
unfolding of_bits
bits_bound b h = fields_bound (leb (2 ^ 63) b) (b % 2 ^ 63 / 2 ^ 52) (b % 2 ^ 52) h

pub bits_sign : (b : ℕ) → modest (of_bits binary64 b) ≡ true → sign_of (of_bits binary64 b) ≡ cond (leb (2 ^ 63) b) (45 ∷ []) []
unfolding of_bits
bits_sign b h = fields_sign (leb (2 ^ 63) b) (b % 2 ^ 63 / 2 ^ 52) (b % 2 ^ 52) (bits_bound b h)

-- ---- what the code's shift and sum come to

pub shifted : (j : ℕ) → j < 64 → (1 * 2 ^ j) % 2 ^ 64 ≡ 2 ^ j
shifted j h = shl_exact {a = 1} 1 j 64 (omega arith) (omega arith) ∙ one-mul (2 ^ j)
