-- The natural logarithm of an f64, as it is worked: x = m · 2^e with 0.75 ≤ m < 1.5, z = (m - 1) / (m + 1), q = z · z, t = 1/23, then t = t · q + 1/d
-- for d = 21, 19, .., 1; the result is e · L + (2 · z) · t. Definitions only.
use Rattle.std.specs.Prelude.{◌≡◌, ℕ, zero, suc, ◌-◌, ◌*◌, ◌/◌, ◌^◌, ◌<◌, ◌≤◌, false, cond, T, ℤ, nat_lt, Float}
use Rattle.std.specs.Float.{nan, inf, fin, binary64}
use Rattle.std.specs.Float.Ieee.{up, down, minus, size, odd, of_int, fits}
use Rattle.std.specs.Float.Ieee.Exact.{HasValue}
use Rattle.arith.specs.F64.{f64, ◌⊕◌, ◌⊖◌, ◌⊗◌, ◌⊘◌}
use Rattle.arith.specs.Printed.{less, printed}

-- L, the f64 nearest 0.693147180559945309417, for ln 2
unfoldable pub ln2 : Float
ln2 = printed false 693147180559945309417 (less 21)

-- t = 1/23, and then j times t = t · q + 1/d, for d = 21, 19, ..
unfoldable pub series : Float → ℕ → Float
series q zero = f64 1 ⊘ f64 23
series q (suc j) = series q j ⊗ q ⊕ f64 1 ⊘ f64 (21 - 2 * j)

-- e · L + (2 · z) · t, with z = (m - 1) / (m + 1) and t after all eleven steps
unfoldable pub log_sum : Float → Float → Float
log_sum m e =
    let z = (m ⊖ f64 1) ⊘ (m ⊕ f64 1) in
    e ⊗ ln2 ⊕ (f64 2 ⊗ z) ⊗ series (z ⊗ z) 11

-- the m and the e of x = m · 2^e
pub record Parts : Type 0 where
  pub m : Float
  pub e : ℤ

-- Of x = f · 2^k / 2^1074 with 53 binary digits in f: f / 2^52 is from 1 up to 2, and x is that times 2^(k - 1022). Where it is 1.5 or more, m is half of it.
unfoldable pub parts_at : ℕ → ℕ → Parts
parts_at f k =
    cond (nat_lt (2 * f) (3 * 2 ^ 52)) (record { m = odd 53 false f 0 52; e = minus k 1022 })
    (record { m = odd 53 false f 0 53; e = minus k 1021 })

-- of x = n / 2^1074, a normal number: f is the 53 leading binary digits of n, behind which it has zeros
unfoldable pub parts_of : ℕ → Parts
parts_of n = let k = size n - 53 in parts_at (n / 2 ^ k) k

-- of x = n / 2^1074: below n = 2^52 that is zero or a subnormal number, and has none
unfoldable pub log_units : ℕ → Float
log_units n = cond (nat_lt n (2 ^ 52)) nan (log_sum (parts_of n).m (of_int binary64 (parts_of n).e))

-- What is negative, an infinity and NaN have none. m · 2^e is m · up e · 2^1074 / down e smallest ones.
unfoldable pub log_of : Float → Float
log_of nan = nan
log_of (inf s) = nan
log_of (fin s m e) = cond s nan (log_units (m * up e * 2 ^ 1074 / down e))

-- What the parts of x = n / 2^1074 are to be: m is a / 2^53 and an f64, 0.75 ≤ m < 1.5, and x = m · 2^e. `proofs/Logarithm.antt` shows it of `parts_of n` for
-- every normal x (`parts_right`).
pub record Split (n : ℕ) (p : Parts) : Type 0 where
  pub a : ℕ
  pub value : HasValue p.m false a (2 ^ 53)
  pub held : T (fits binary64 p.m)
  pub least : 3 * 2 ^ 53 ≤ 4 * a
  pub most : 2 * a < 3 * 2 ^ 53
  pub same : n * down p.e * 2 ^ 53 ≡ a * up p.e * 2 ^ 1074
