-- Roots of whole numbers: what `floor_root` is, and how many digits `near_root` has. Assumes nothing.
use Rattle.std.proofs.Common.{◌≡◌, ℕ, zero, suc, ◌+◌, ◌-◌, ◌*◌, ◌/◌, ◌^◌, ◌<◌, ◌≤◌, Bool, true, false, cond, not, T, leb, refl, lt_of_le_of_lt, le_of_lt, div-lt_iff_lt-mul, add-mul, mul-le-mul, mul-le-mul_left, mul-lt-mul_of_pos_right, pow-suc, lt_of_not-le, mul-add, not-le_of_lt, arith, leb→le}
use native.Mathlib.Nat.{mul-mul-mul_comm}
use lib.Dec.{nleb→lt}
use Rattle.elementary.specs.Root.{floor_root, near_root}

pub square_suc : (x : ℕ) → (x + 1) * (x + 1) ≡ x * x + 2 * x + 1
square_suc x = omega (arith, mul-add (x + 1) x 1, add-mul x 1 x)

pub square_twice : {y : ℕ} (x : ℕ) → y ≡ x * 2 → y * y ≡ 4 * (x * x)
square_twice x e = rw e (omega (arith, mul-mul-mul_comm x 2 x 2))

pub square_odd : {y : ℕ} (x : ℕ) → y ≡ x * 2 + 1 → y * y ≡ 4 * (x * x) + 4 * x + 1
square_odd x e = rw e (omega (arith, square_suc (x * 2), square_twice x refl))

pub square_lt_back : (p s : ℕ) → p * p < s * s → p < s
square_lt_back p s h = lt_of_not-le (λ g. not-le_of_lt h (mul-le-mul g g))

pub square_lt : {u v : ℕ} → u < v → u * u < v * v
square_lt {u} {v} h = lt_of_le_of_lt (mul-le-mul_left u (le_of_lt h)) (mul-lt-mul_of_pos_right h (omega arith))

-- q is the whole part of the root of n
abbrev pub Floor : ℕ → ℕ → Type 0
Floor n q = (q * q ≤ n) × (n < (q + 1) * (q + 1))

pub floor_law : (k n : ℕ) → n < 4 ^ k → Floor n (floor_root k n)
unfolding floor_root
floor_law zero n h = (omega arith, h)
floor_law (suc k) n h = go (floor_root k (n / 4)) (floor_law k (n / 4) ((div-lt_iff_lt-mul (omega arith)).1 (rw pow-suc at h))) (leb ((2 * floor_root k (n / 4) + 1) * (2 * floor_root k (n / 4) + 1)) n) (leb→le _ n) (nleb→lt _ n)
  where
    go : (r : ℕ) → Floor (n / 4) r → (b : Bool) → (T b → (2 * r + 1) * (2 * r + 1) ≤ n) → (T (not b) → n < (2 * r + 1) * (2 * r + 1)) → Floor n (cond b (2 * r + 1) (2 * r))
    go r f true up down = (up tt, omega (arith, f, square_suc (2 * r + 1), square_odd {y = 2 * r + 1} r (omega arith), square_suc r))
    go r f false up down = (omega (arith, f, square_twice {y = 2 * r} r (omega arith)), down tt)

-- where the root is from 2 ^ 52 up to 2 ^ 53 - 1/2, the nearest number has 53 binary digits
pub near_size : (n : ℕ) → 4 ^ 52 ≤ n → 4 * n < (2 ^ 54 - 1) * (2 ^ 54 - 1) → (2 ^ 52 ≤ near_root n) × (near_root n < 2 ^ 53)
unfolding near_root
near_size n lo hi = go (floor_root 53 n) (floor_law 53 n (omega arith)) (leb ((2 * floor_root 53 n + 1) * (2 * floor_root 53 n + 1)) (4 * n)) (leb→le _ (4 * n))
  where
    go : (q : ℕ) → Floor n q → (b : Bool) → (T b → (2 * q + 1) * (2 * q + 1) ≤ 4 * n) → (2 ^ 52 ≤ cond b (q + 1) q) × (cond b (q + 1) q < 2 ^ 53)
    go q f true up =
        let l : 2 ^ 52 < q + 1 = square_lt_back (2 ^ 52) (q + 1) (omega arith) in
        let h : 2 * q + 1 < 2 ^ 54 - 1 = square_lt_back (2 * q + 1) (2 ^ 54 - 1) (omega (arith, up tt)) in
        (omega arith, omega arith)
    go q f false up =
        let l : 2 ^ 52 < q + 1 = square_lt_back (2 ^ 52) (q + 1) (omega arith) in
        (omega arith, square_lt_back q (2 ^ 53) (omega arith))
