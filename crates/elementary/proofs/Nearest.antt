-- `root_of x` is the f64 nearest the root of x (`root_nearest`), and no other f64 is (`nothing_else`), for every positive finite f64 x. Assumes nothing.
-- x scaled is a whole number s whose root has 53 binary digits, and 4s lies strictly between the squares of the odd numbers 2r - 1 and 2r + 1.
use Rattle.std.proofs.Common.{◌≡◌, ℕ, zero, suc, ◌+◌, ◌-◌, ◌*◌, ◌/◌, ◌^◌, ◌<◌, ◌≤◌, Bool, true, false, cond, not, T, leb, ◌⊎◌, sym, refl, ap, ◌∙◌, subst, inl, inr, le_trans, le_of_eq, lt_of_lt_of_le, lt_of_le_of_lt, le_of_lt, mul-le-mul_right, mul_assoc, add-mul, mul-le-mul, add_comm, lt_of_mul-lt-mul_right, eq-or-lt_of_le, mul-lt-mul_of_pos_right, mul-pos, lt_of_not-le, not-le_of_lt, le_of_mul-le-mul_right, arith, leb→le, pow_pos, pow_mono, pow-add, shl_lt}
use native.Mathlib.Nat.{mul-mul-mul_comm, one-le-pow}
use lib.Dec.{nleb→lt}
use lib.Ieee.{Float, binary64, size, odd, fits}
use lib.Ieee.Digits.{size-lt, size-le, size_reaches}
use lib.Ieee.Fits.{odd-fits}
use lib.Ieee.Exact.{HasValue, odd_sign}
use Rattle.elementary.specs.Root.{floor_root, near_root, root_units, root_of, Nearest}
use Rattle.elementary.proofs.Units.{Counted, counted, place, odd_shift, value_unique}
use Rattle.elementary.proofs.Whole.{square_suc, square_twice, square_odd, square_lt, square_lt_back, Floor, floor_law, near_size}
use Rattle.elementary.proofs.Digits.{four, by_units, units_by}

-- ---- whole numbers

-- r is the whole number nearest the root of n: the root is above r - 1/2 and below r + 1/2
abbrev pub Near : ℕ → ℕ → Type 0
Near n r = ((2 * r - 1) * (2 * r - 1) < 4 * n) × (4 * n < (2 * r + 1) * (2 * r + 1))

near_law : (n : ℕ) → 0 < n → n < 4 ^ 53 → Near n (near_root n)
unfolding near_root
near_law n some h = go (floor_root 53 n) (floor_law 53 n h) (leb ((2 * floor_root 53 n + 1) * (2 * floor_root 53 n + 1)) (4 * n)) (leb→le _ (4 * n)) (nleb→lt _ (4 * n))
  where
    go : (q : ℕ) → Floor n q → (b : Bool) → (T b → (2 * q + 1) * (2 * q + 1) ≤ 4 * n) → (T (not b) → 4 * n < (2 * q + 1) * (2 * q + 1)) → Near n (cond b (q + 1) q)
    go q f true up down =
        let e : 2 * (q + 1) - 1 ≡ 2 * q + 1 = omega arith in
        (rw e (omega (arith, up tt, square_odd {y = 2 * q + 1} q (omega arith))), omega (arith, square_odd {y = 2 * (q + 1) + 1} (q + 1) (omega arith)))
    go zero f false up down = (omega arith, down tt)
    go (suc q) f false up down =
        let m : 2 * suc q * (2 * suc q) ≡ (2 * suc q - 1 + 1) * (2 * suc q - 1 + 1) = ap (λ z. z * z) (omega arith) in
        (omega (arith, square_twice {y = 2 * suc q} (suc q) (omega arith), square_suc (2 * suc q - 1)), down tt)

-- ---- scaled

-- y is r · 2^d / 2^(52 + 537), r the whole number nearest the root of s, and x = n / 2^1074 with n · 4^52 = s · 4^d
pub record Scaled (n : ℕ) (y : Float) : Type 0 where
  pub d : ℕ
  pub s : ℕ
  pub r : ℕ
  pub scaled : n * 4 ^ 52 ≡ s * 4 ^ d
  pub least : 4 ^ 52 ≤ s
  pub near : Near s r
  pub short : r < 2 ^ 53
  pub bounded : d ≤ 1048
  pub is : y ≡ odd 53 false r d 589

-- a multiple of 2^53 below 4^53, or a number up to 2^105, has a root below 2^53 - 1/2
under_half : (s : ℕ) → s < 4 ^ 53 → ((h : ℕ) × (s ≡ h * 2 ^ 53)) ⊎ (s ≤ 2 ^ 52 * 2 ^ 53) → 4 * s < (2 ^ 54 - 1) * (2 ^ 54 - 1)
under_half s h (inl k) = omega (arith, k.1)
under_half s h (inr k) = omega arith

digits : (n : ℕ) → 0 < n → 0 < size n
digits n h = lt_of_not-le (λ g. not-le_of_lt (size-lt n) (le_trans (pow_mono {i = size n} {j = 0} g) h))

scaled : (n : ℕ) → Counted n → 0 < n → Scaled n (root_units n)
scaled n w some =
    let f = w.g in
    let k = w.j in
    let d = (size n - 1) / 2 in
    let has : 0 < size n = digits n some in
    let j = k + 104 - 2 * d in
    let fit : size n ≤ 53 + k = size-le n (53 + k) (rw w.count (shl_lt 53 k w.short)) in
    let e : n * 4 ^ 52 ≡ f * 2 ^ j * 4 ^ d =
    ap (λ z. z * 2 ^ 104) w.count ∙ mul_assoc f (2 ^ k) (2 ^ 104) ∙ ap (λ z. f * z) (sym (pow-add 2 k 104) ∙ ap (λ z. 2 ^ z) (omega arith) ∙ pow-add 2 j (2 * d) ∙ ap (λ z. 2 ^ j * z) (sym (four d))) ∙ sym (mul_assoc f (2 ^ j) (4 ^ d)) in
    let p : 0 < 4 ^ d = one-le-pow d 4 (omega arith) in
    let a : 4 ^ d ≤ n = rw (four d) (size_reaches n (2 * d) (omega arith)) in
    let b : n < 4 ^ d * 4 = rw (four d, ← pow-add 2 (2 * d) 2) (lt_of_lt_of_le (size-lt n) (pow_mono {i = size n} {j = 2 * d + 2} (omega arith))) in
    let least : 4 ^ 52 ≤ f * 2 ^ j = le_of_mul-le-mul_right {k = 4 ^ d} (omega arith) p in
    let most : f * 2 ^ j < 4 ^ 53 = lt_of_mul-lt-mul_right (4 ^ d) (omega arith) in
    let top : size n ≤ 2098 = size-le n 2098 w.bounded in
    let half : 4 * (f * 2 ^ j) < (2 ^ 54 - 1) * (2 ^ 54 - 1) = under_half (f * 2 ^ j) most (place (f * 2 ^ j) 53 (record { g = f; j = j; short = w.short; count = refl; bounded = lt_of_lt_of_le most (pow_mono {i = 106} {j = 2098} (omega arith)) })) in
    record {
      d = d;
      s = f * 2 ^ j;
      r = near_root (f * 2 ^ j);
      scaled = e;
      least = least;
      near = near_law (f * 2 ^ j) (omega arith) most;
      short = (near_size (f * 2 ^ j) least half).1;
      bounded = omega arith;
      is = units_by n (f * 2 ^ j) d e least most;
    }

-- ---- against every other count c: w is 4 · n · 2^1074, and p the count of y's last digit
module _ (w s r p : ℕ) (total : w ≡ 4 * s * (p * p)) (least : 4 ^ 52 ≤ s) (near : Near s r) (some : 0 < p) where
  under : (a x : ℕ) → a * a < 4 * s → x ≤ a * p → x * x < w
  under a x h l = rw total (lt_of_le_of_lt (mul-le-mul l l) (lt_of_le_of_lt (le_of_eq (mul-mul-mul_comm a p a p)) (mul-lt-mul_of_pos_right h (mul-pos some some))))

  less : (a x : ℕ) → a * a ≤ 4 * s → x < a * p → x * x < w
  less a x h l = rw total (lt_of_lt_of_le (square_lt l) (le_trans (le_of_eq (mul-mul-mul_comm a p a p)) (mul-le-mul_right (p * p) h)))

  over : (a x : ℕ) → 4 * s < a * a → a * p ≤ x → w < x * x
  over a x h l = rw total (lt_of_lt_of_le (mul-lt-mul_of_pos_right h (mul-pos some some)) (le_trans (le_of_eq (sym (mul-mul-mul_comm a p a p))) (mul-le-mul l l)))

  big : 2 ^ 52 ≤ r
  big =
      let l : 2 ^ 53 < 2 * r + 1 + 1 = square_lt_back (2 ^ 53) (2 * r + 1 + 1) (omega (arith, square_suc (2 * r + 1))) in
      omega arith

  below : (c : ℕ) → ((h : ℕ) × (c ≡ h * p)) ⊎ (c ≤ 2 ^ 52 * p) → c < r * p → (r * p + c) * (r * p + c) < w
  below c (inl k) g =
      let l : k.0 < r = lt_of_mul-lt-mul_right p (subst (λ z. z < r * p) k.1 g) in
      let m : (r + k.0) * p ≤ (2 * r - 1) * p = mul-le-mul_right p (omega arith) in
      under (2 * r - 1) (r * p + c) near.0 (omega (arith, add-mul r k.0 p, k.1))
  below c (inr k) g = elim (eq-or-lt_of_le big) [
    | inl e ↦
        let m : 2 ^ 52 * p ≡ r * p = ap (λ z. z * p) e in
        less (2 ^ 53) (r * p + c) (omega arith) (omega arith)
    | inr l ↦
        let m : (r + 2 ^ 52) * p ≤ (2 * r - 1) * p = mul-le-mul_right p (omega arith) in
        under (2 * r - 1) (r * p + c) near.0 (omega (arith, add-mul r (2 ^ 52) p))
  ]

  above : (c : ℕ) → ((h : ℕ) × (c ≡ h * p)) ⊎ (c ≤ 2 ^ 52 * p) → r * p < c → w < (r * p + c) * (r * p + c)
  above c (inl k) g =
      let l : r < k.0 = lt_of_mul-lt-mul_right p (subst (λ z. r * p < z) k.1 g) in
      let m : (2 * r + 1) * p ≤ (r + k.0) * p = mul-le-mul_right p (omega arith) in
      over (2 * r + 1) (r * p + c) near.1 (omega (arith, add-mul r k.0 p, k.1))
  above c (inr k) g =
      let m : 2 ^ 52 * p ≤ r * p = mul-le-mul_right p big in
      absurd (omega arith)

-- ---- every other f64

-- the count of y, and that of any f64 against it
module _ (n : ℕ) (y : Float) (k : Scaled n y) where
  abbrev pub last : ℕ
  last = 2 ^ (485 + k.d)

  abbrev pub count : ℕ
  count = k.r * last

  total : 4 * (n * 2 ^ 1074) ≡ 4 * k.s * (last * last)
  total =
      ap (λ z. 4 * z) (sym (mul_assoc n (4 ^ 52) (2 ^ 970)) ∙ ap (λ z. z * 2 ^ 970) (k.scaled ∙ ap (λ z. k.s * z) (four k.d)) ∙ mul_assoc k.s (2 ^ (2 * k.d)) (2 ^ 970)
      ∙ ap (λ z. k.s * z) (sym (pow-add 2 (2 * k.d) 970) ∙ ap (λ z. 2 ^ z) (omega arith) ∙ pow-add 2 (485 + k.d) (485 + k.d)))
      ∙ sym (mul_assoc 4 k.s (last * last))

  shifted : y ≡ odd 53 false k.r (485 + k.d) 1074
  shifted = k.is ∙ odd_shift 485 53 k.r k.d 589

  pub value : HasValue y false count (2 ^ 1074)
  value = subst (λ z. HasValue z false count (2 ^ 1074)) (sym shifted) (odd_sign 53 false k.r (485 + k.d) 1074)

  pub held : T (fits binary64 y)
  held =
      subst (λ z. T (fits binary64 z)) (sym shifted)
      (odd-fits binary64 53 false k.r (485 + k.d) k.short (le_of_lt k.short) (lt_of_lt_of_le (shl_lt 53 (485 + k.d) k.short) (pow_mono {i = 53 + (485 + k.d)} {j = 2098} (omega (arith, k.bounded)))))

  smaller : (z : Float) (c : ℕ) → T (fits binary64 z) → HasValue z false c (2 ^ 1074) → c < count → (count + c) * (count + c) < 4 * (n * 2 ^ 1074)
  smaller z c t v h = below (4 * (n * 2 ^ 1074)) k.s k.r last total k.least k.near (pow_pos (485 + k.d)) c (place c (485 + k.d) (counted z c t v)) h

  larger : (z : Float) (c : ℕ) → T (fits binary64 z) → HasValue z false c (2 ^ 1074) → count < c → 4 * (n * 2 ^ 1074) < (count + c) * (count + c)
  larger z c t v h = above (4 * (n * 2 ^ 1074)) k.s k.r last total k.least k.near (pow_pos (485 + k.d)) c (place c (485 + k.d) (counted z c t v)) h

  nearest : Nearest n y
  nearest = record {
    units = count;
    value = value;
    below = λ z c t v h. le_of_lt (smaller z c t v h);
    above = λ z c t v h. le_of_lt (larger z c t v h);
  }

  alone : (z : Float) → T (fits binary64 z) → Nearest n z → z ≡ y
  alone z t p = go (leb p.units count) (leb→le p.units count) (nleb→lt p.units count)
    where
      swap : (p.units + count) * (p.units + count) ≡ (count + p.units) * (count + p.units)
      swap = ap (λ a. a * a) (add_comm p.units count)

      go : (b : Bool) → (T b → p.units ≤ count) → (T (not b) → count < p.units) → z ≡ y
      go true a b = elim (eq-or-lt_of_le (a tt)) [
        | inl e ↦ value_unique z y count t held (subst (λ u. HasValue z false u (2 ^ 1074)) e p.value) value
        | inr l ↦ absurd (not-le_of_lt (smaller z p.units t p.value l) (subst (λ u. 4 * (n * 2 ^ 1074) ≤ u) swap (p.above y count held value l)))
      ]
      go false a b = absurd (not-le_of_lt (larger z p.units t p.value (b tt)) (subst (λ u. u ≤ 4 * (n * 2 ^ 1074)) swap (p.below y count held value (b tt))))

-- ---- the root of a positive finite f64 x = n / 2^1074
pub of_root : (x : Float) (n : ℕ) → T (fits binary64 x) → HasValue x false n (2 ^ 1074) → 0 < n → Scaled n (root_of x)
of_root x n t v h = subst (λ y. Scaled n y) (sym (by_units x n v h)) (scaled n (counted x n t v) h)

pub root_nearest : (x : Float) (n : ℕ) → T (fits binary64 x) → HasValue x false n (2 ^ 1074) → 0 < n → Nearest n (root_of x)
root_nearest x n t v h = nearest n (root_of x) (of_root x n t v h)

pub nothing_else : (x : Float) (n : ℕ) → T (fits binary64 x) → HasValue x false n (2 ^ 1074) → 0 < n → (y : Float) → T (fits binary64 y) → Nearest n y → y ≡ root_of x
nothing_else x n t v h y f p = alone n (root_of x) (of_root x n t v h) y f p

pub root_held : (x : Float) (n : ℕ) → T (fits binary64 x) → HasValue x false n (2 ^ 1074) → 0 < n → T (fits binary64 (root_of x))
root_held x n t v h = held n (root_of x) (of_root x n t v h)
