-- The root that the language has, `sqrt` at binary64, is `root_of`. It takes the root of x · 4^2271 to a whole number T, twice its whole part and one more where
-- the root goes on, and rounds T / 2^2272; the definition scales x to a whole number and takes the nearest to its root. Assumes nothing.
use Rattle.std.proofs.Common.{◌≡◌, ℕ, zero, suc, ◌+◌, ◌-◌, ◌*◌, ◌/◌, ◌%◌, ◌^◌, ◌<◌, ◌≤◌, Bool, true, false, cond, not, ◌&&◌, T, eqb, ltb, leb, ℤ, pos, negsuc, sym, refl, ap, ◌∙◌, subst, le_trans, le_of_eq, lt_of_lt_of_le, lt_of_le_of_lt, mul-le-mul_right, mul_assoc, mul_comm, add-mul, lt_of_mul-lt-mul_right, mul-lt-mul_of_pos_right, mul-pos, lt_of_not-le, not-le_of_lt, mul_right_comm, mul-one, mul-div_cancel, arith, leb→le, pow_pos, pow_mono, pow-add, pow-suc, shl_lt, ne_eqb, le_of_suc-le-suc}
use Prim.Native.Nat.{compare, Ordering}
use native.Mathlib.Nat.{zero-lt-suc, mul-mul-mul_comm, div-add-mod', le-div_iff_mul-le, div-lt_iff_lt-mul}
use lib.Arith.{lt_of_le-ne}
use lib.Dec.{is_le, compare_is_eq, nleb→lt, eqb→eq, eqb_refl}
use lib.Pow.{pow-lt}
use lib.Ieee.{Float, nan, inf, fin, binary64, up, down, size, fits, nearest, root_below, root_twice, round, sqrt}
use lib.Ieee.Digits.{size-lt, size-le, back}
use lib.Ieee.Fits.{up_pos, down_pos, round-fits, and_l, and_r}
use lib.Ieee.Positive.{first_pos}
use lib.Ieee.Exact.{HasValue}
use lib.Ieee.Nearest.{closest}
use lib.Ieee.Scale.{grid, round_val}
use lib.Ieee.Root.{Root, whole_part}
use Rattle.elementary.specs.Root.{root_of}
use Rattle.elementary.proofs.Units.{value_unique}
use Rattle.elementary.proofs.Whole.{square_lt_back}
use Rattle.elementary.proofs.Digits.{four}
use Rattle.elementary.proofs.Nearest.{Scaled, count, value, held, of_root}

-- ---- T against twice the numbers whose squares lie about n
twice : (r n g h : ℕ) (b : Bool) → Root r n → (eqb (r * r) n ≡ b) → g * g < n → n < h * h → (2 * g < 2 * r + cond b 0 1) × (2 * r + cond b 0 1 < 2 * h)
twice r n g h true w e lo hi =
    let s : r * r ≡ n = eqb→eq (r * r) n (rw e tt) in
    let k : g < r = square_lt_back g r (rw s lo) in
    let l : r < h = square_lt_back r h (rw s hi) in
    (omega arith, omega arith)
twice r n g h false w e lo hi =
    let k : g < r + 1 = square_lt_back g (r + 1) (omega (arith, w.1)) in
    let l : r < h = square_lt_back r h (omega (arith, w.0)) in
    (omega arith, omega arith)

pub twice_root : (n g h : ℕ) → g * g < n → n < h * h → (2 * g < root_twice n) × (root_twice n < 2 * h)
unfolding root_twice
twice_root n g h lo hi = twice (root_below (size n) n) n g h _ (whole_part n) refl lo hi

-- and not below twice one whose square is n or less
least : (r n g : ℕ) (b : Bool) → Root r n → g * g ≤ n → 2 * g ≤ 2 * r + cond b 0 1
least r n g b w lo =
    let k : g < r + 1 = square_lt_back g (r + 1) (omega (arith, w.1)) in
    omega arith

pub least_root : (n g : ℕ) → g * g ≤ n → 2 * g ≤ root_twice n
unfolding root_twice
least_root n g lo = least (root_below (size n) n) n g _ (whole_part n) lo

-- ---- a fraction less than a half from q is rounded to q
abbrev Cmp : Ordering → ℕ → ℕ → Type 0
Cmp Ordering.lt a b = a < b
Cmp Ordering.eq a b = a ≡ b
Cmp Ordering.gt a b = b < a

cmp : (a b : ℕ) → Cmp (compare a b) a b
cmp a b = go (compare a b) (leb→le a b) (nleb→lt a b) (eqb→eq a b) (λ (e : a ≡ b). subst (λ (x : ℕ). T (eqb a x)) e (eqb_refl a))
  where
    go : (o : Ordering) → (T (is_le o) → a ≤ b) → (T (not (is_le o)) → b < a) → (T (compare_is_eq o) → a ≡ b) → (a ≡ b → T (compare_is_eq o)) → Cmp o a b
    go Ordering.lt h k e n = lt_of_le-ne (h tt) n
    go Ordering.eq h k e n = e tt
    go Ordering.gt h k e n = k tt

module _ (w t b q : ℕ) (rest : t < b) (lo : (2 * q - 1) * b < 2 * (w * b + t)) (hi : 2 * (w * b + t) < (2 * q + 1) * b) where
  below : 2 * w < 2 * q + 1
  below = lt_of_mul-lt-mul_right b (omega (arith, mul_assoc 2 w b))

  above : 2 * q - 1 < 2 * w + 2
  above = lt_of_mul-lt-mul_right b (omega (arith, mul_assoc 2 w b, add-mul (2 * w) 2 b))

  settled : (o : Ordering) → Cmp o (t * 2) b → nearest w o ≡ q
  settled Ordering.lt c =
      let l : 2 * q - 1 < 2 * w + 1 = lt_of_mul-lt-mul_right b (omega (arith, mul_assoc 2 w b, add-mul (2 * w) 1 b)) in
      omega (arith, below)
  settled Ordering.eq c =
      let e : 2 * (w * b + t) ≡ (2 * w + 1) * b = omega (arith, mul_assoc 2 w b, add-mul (2 * w) 1 b) in
      let l : 2 * q - 1 < 2 * w + 1 = lt_of_mul-lt-mul_right b (rw e at lo) in
      let m : 2 * w + 1 < 2 * q + 1 = lt_of_mul-lt-mul_right b (rw e at hi) in
      absurd (omega arith)
  settled Ordering.gt c =
      let m : 2 * w + 1 < 2 * q + 1 = lt_of_mul-lt-mul_right b (omega (arith, mul_assoc 2 w b, add-mul (2 * w) 1 b)) in
      omega (arith, above)

pub closest_is : (a b q : ℕ) → 0 < b → (2 * q - 1) * b < 2 * a → 2 * a < (2 * q + 1) * b → closest a b ≡ q
closest_is a b q some lo hi =
    let e : a / b * b + a % b ≡ a = div-add-mod' a b in
    settled (a / b) (a % b) b q (omega arith) (omega arith) (omega arith) (compare (a % b * 2) b) (cmp (a % b * 2) b)

-- ---- T / 2^2272, from 2^(537 + d) up to 2^(538 + d) smallest ones, by its 53 binary digits
size_is : (n j : ℕ) → 2 ^ j ≤ n → n < 2 ^ suc j → size n ≡ suc j
size_is n j lo hi =
    let l : j < size n = lt_of_not-le (λ g. not-le_of_lt (size-lt n) (le_trans (pow_mono g) lo)) in
    let h : size n ≤ suc j = size-le n (suc j) hi in
    omega arith

sized : (t d : ℕ) → 2 ^ (1735 + d) ≤ t → t < 2 ^ (1736 + d) → size (t * 2 ^ 1074 / 2 ^ 2272) ≡ suc (537 + d)
sized t d lo hi =
    let a : 2 ^ (537 + d) * 2 ^ 2272 ≡ 2 ^ (1735 + d) * 2 ^ 1074 = sym (pow-add 2 (537 + d) 2272) ∙ ap (λ z. 2 ^ z) (omega arith) ∙ pow-add 2 (1735 + d) 1074 in
    let b : 2 ^ (1736 + d) * 2 ^ 1074 ≡ 2 ^ suc (537 + d) * 2 ^ 2272 = sym (pow-add 2 (1736 + d) 1074) ∙ ap (λ z. 2 ^ z) (omega arith) ∙ pow-add 2 (suc (537 + d)) 2272 in
    size_is (t * 2 ^ 1074 / 2 ^ 2272) (537 + d)
    ((le-div_iff_mul-le (pow_pos 2272)).1 (le_trans (le_of_eq a) (mul-le-mul_right (2 ^ 1074) lo)))
    ((div-lt_iff_lt-mul (pow_pos 2272)).1 (lt_of_lt_of_le (mul-lt-mul_of_pos_right hi (pow_pos 1074)) (le_of_eq b)))

-- x halves of the last digit kept, and x times 2 · 2^(1681 + d)
halves : (x d : ℕ) → x * (2 ^ 2272 * 2 ^ (485 + d)) ≡ 2 * (x * 2 ^ (1681 + d)) * 2 ^ 1075
halves x d =
    ap (λ z. x * z) (sym (pow-add 2 2272 (485 + d)) ∙ ap (λ z. 2 ^ z) (omega arith) ∙ pow-add 2 (1681 + d) 1076)
    ∙ sym (mul_assoc x (2 ^ (1681 + d)) (2 * 2 ^ 1075))
    ∙ sym (mul_assoc (x * 2 ^ (1681 + d)) 2 (2 ^ 1075))
    ∙ ap (λ z. z * 2 ^ 1075) (mul_comm (x * 2 ^ (1681 + d)) 2)

doubled : (t : ℕ) → t * 2 ^ 1075 ≡ 2 * (t * 2 ^ 1074)
doubled t = sym (mul_assoc t (2 ^ 1074) 2) ∙ mul_comm (t * 2 ^ 1074) 2

module _ (n : ℕ) (y : Float) (k : Scaled n y) where
  abbrev p : ℕ
  p = 2 ^ (1681 + k.d)

  total : n * 2 ^ 3468 ≡ 4 * k.s * (p * p)
  total =
      sym (mul_assoc n (4 ^ 52) (2 ^ 3364)) ∙ ap (λ z. z * 2 ^ 3364) (k.scaled ∙ ap (λ z. k.s * z) (four k.d)) ∙ mul_assoc k.s (2 ^ (2 * k.d)) (2 ^ 3364)
      ∙ ap (λ z. k.s * z) (sym (pow-add 2 (2 * k.d) 3364) ∙ ap (λ z. 2 ^ z) (omega arith) ∙ pow-add 2 2 ((1681 + k.d) + (1681 + k.d)) ∙ ap (λ z. 4 * z) (pow-add 2 (1681 + k.d) (1681 + k.d)))
      ∙ sym (mul_assoc k.s 4 (p * p)) ∙ ap (λ z. z * (p * p)) (mul_comm k.s 4)

  square : (x : ℕ) → x * p * (x * p) ≡ x * x * (p * p)
  square x = mul-mul-mul_comm x p x p

  some : 0 < p * p
  some = mul-pos (pow_pos (1681 + k.d)) (pow_pos (1681 + k.d))

  about : (2 * ((2 * k.r - 1) * p) < root_twice (n * 2 ^ 3468)) × (root_twice (n * 2 ^ 3468) < 2 * ((2 * k.r + 1) * p))
  about =
      twice_root (n * 2 ^ 3468) ((2 * k.r - 1) * p) ((2 * k.r + 1) * p)
      (rw (total, square (2 * k.r - 1)) (mul-lt-mul_of_pos_right k.near.0 some))
      (rw (total, square (2 * k.r + 1)) (mul-lt-mul_of_pos_right k.near.1 some))

  from : 2 ^ (1735 + k.d) ≤ root_twice (n * 2 ^ 3468)
  from =
      let e : 2 ^ (1735 + k.d) ≡ 2 * (2 ^ 53 * p) = ap (λ z. 2 ^ z) (omega arith) ∙ pow-add 2 54 (1681 + k.d) ∙ mul_assoc 2 (2 ^ 53) p in
      rw e (least_root (n * 2 ^ 3468) (2 ^ 53 * p) (rw (total, square (2 ^ 53)) (mul-le-mul_right (p * p) (omega (arith, k.least)))))

  under : root_twice (n * 2 ^ 3468) < 2 ^ (1736 + k.d)
  under =
      let e : 2 * (2 ^ 54 * p) ≡ 2 ^ (1736 + k.d) = sym (mul_assoc 2 (2 ^ 54) p) ∙ sym (pow-add 2 55 (1681 + k.d)) ∙ ap (λ z. 2 ^ z) (omega arith) in
      let l : (2 * k.r + 1) * p ≤ 2 ^ 54 * p = mul-le-mul_right p (omega (arith, k.short)) in
      lt_of_lt_of_le about.1 (le_trans (omega arith) (le_of_eq e))

  digits : size (root_twice (n * 2 ^ 3468) * 2 ^ 1074 / 2 ^ 2272) - 53 ≡ 485 + k.d
  digits = omega (arith, sized (root_twice (n * 2 ^ 3468)) k.d from under)

  kept : closest (root_twice (n * 2 ^ 3468) * 2 ^ 1074) (2 ^ 2272 * 2 ^ (485 + k.d)) ≡ k.r
  kept =
      let T = root_twice (n * 2 ^ 3468) in
      closest_is (T * 2 ^ 1074) (2 ^ 2272 * 2 ^ (485 + k.d)) k.r (mul-pos (pow_pos 2272) (pow_pos (485 + k.d)))
      (rw (halves (2 * k.r - 1) k.d, ← doubled T) (mul-lt-mul_of_pos_right about.0 (pow_pos 1075)))
      (rw (halves (2 * k.r + 1) k.d, ← doubled T) (mul-lt-mul_of_pos_right about.1 (pow_pos 1075)))

  grid_is : grid binary64 (root_twice (n * 2 ^ 3468)) (2 ^ 2272) ≡ count n y k
  grid_is =
      ap (λ z. closest (root_twice (n * 2 ^ 3468) * 2 ^ 1074) (2 ^ 2272 * 2 ^ z) * 2 ^ z) digits ∙ ap (λ z. z * 2 ^ (485 + k.d)) kept

  fine : count n y k < 2 ^ 2098
  fine = lt_of_lt_of_le (shl_lt 53 (485 + k.d) k.short) (pow_mono {i = 53 + (485 + k.d)} {j = 2098} (omega (arith, k.bounded)))

  rounded : round binary64 false (root_twice (n * 2 ^ 3468)) (2 ^ 2272) ≡ y
  rounded =
      let v = round_val binary64 (root_twice (n * 2 ^ 3468)) (2 ^ 2272) (lt_of_le_of_lt (le_of_eq grid_is) fine) in
      value_unique (round binary64 false (root_twice (n * 2 ^ 3468)) (2 ^ 2272)) y (count n y k) (round-fits binary64 false (root_twice (n * 2 ^ 3468)) (2 ^ 2272)) (held n y k)
      (subst (λ z. HasValue (round binary64 false (root_twice (n * 2 ^ 3468)) (2 ^ 2272)) false z (2 ^ 1074)) grid_is v) (value n y k)

-- ---- every f64

-- m · 2^e is so many smallest ones
units : (m : ℕ) (e : ℤ) → down e ≤ 2 ^ 1074 → (n : ℕ) × (m * up e * 2 ^ 1074 ≡ n * down e)
units m (pos a) h = (m * up (pos a) * 2 ^ 1074, sym (mul-one _))
units m (negsuc a) h =
    let l : suc a ≤ 1074 = le_of_suc-le-suc (lt_of_not-le (λ g. not-le_of_lt (pow-lt g) h)) in
    (m * 2 ^ (1074 - suc a), ap (λ z. z * 2 ^ 1074) (mul-one m) ∙ ap (λ z. m * 2 ^ z) (sym (back 1074 (suc a) l)) ∙ ap (λ z. m * z) (pow-add 2 (1074 - suc a) (suc a)) ∙ sym (mul_assoc m (2 ^ (1074 - suc a)) (2 ^ suc a)))

no_exponent : (e : ℤ) → up e * down e ≡ 1 → e ≡ pos 0
no_exponent (pos zero) h = refl
no_exponent (pos (suc a)) h = absurd (omega (arith, pow-suc 2 a))
no_exponent (negsuc a) h = absurd (omega (arith, pow-suc 2 a))

pub sqrt_is : (x : Float) → T (fits binary64 x) → sqrt binary64 x ≡ root_of x
unfolding sqrt root_of fits
sqrt_is nan f = refl
sqrt_is (inf true) f = refl
sqrt_is (inf false) f = refl
sqrt_is (fin s zero e) f = rw (no_exponent e (eqb→eq (up e * down e) 1 f))
sqrt_is (fin true (suc m) e) f = rw (ne_eqb (suc m) 0 (λ z. omega arith))
sqrt_is (fin false (suc m) e) f =
    let x = fin false (suc m) e in
    let A = eqb (suc m % 2) 1 in
    let B = ltb (suc m) (2 ^ 53) in
    let C = leb (down e) (2 ^ 1074) in
    let D = ltb (suc m * up e) (2 ^ 1024 * down e) in
    let u = units (suc m) e (leb→le (down e) (2 ^ 1074) (and_r (A && B) C (and_l (A && B && C) D f))) in
    let some : 0 < u.0 = first_pos u.0 (down e) (subst (λ z. 0 < z) u.1 (mul-pos (mul-pos (zero-lt-suc m) (up_pos e)) (pow_pos 1074))) in
    let is : suc m * up e * 2 ^ 4542 / down e ≡ u.0 * 2 ^ 3468 =
    ap (λ z. z / down e) (sym (mul_assoc (suc m * up e) (2 ^ 1074) (2 ^ 3468)) ∙ ap (λ z. z * 2 ^ 3468) u.1 ∙ mul_right_comm u.0 (down e) (2 ^ 3468)) ∙ mul-div_cancel (u.0 * 2 ^ 3468) (down_pos e) in
    ap (λ z. round binary64 false (root_twice z) (2 ^ 2272)) is ∙ rounded u.0 (root_of x) (of_root x u.0 f (refl, u.1) some)
