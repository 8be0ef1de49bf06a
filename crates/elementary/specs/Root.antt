-- The square root of an f64: the f64 nearest the exact root, said by comparing squares of whole numbers. Definitions only.
-- Every f64 is a whole number of the smallest one, 2^-1074. Counted so, x = n / 2^1074 and its root is √n / 2^537: subnormal numbers are no special case.
use Rattle.std.specs.Prelude.{ℕ, zero, suc, ◌+◌, ◌-◌, ◌*◌, ◌/◌, ◌^◌, ◌<◌, ◌≤◌, false, cond, T, ◌==◌, nat_le, Float}
use Rattle.std.specs.Float.{nan, inf, fin, binary64}
use Rattle.std.specs.Float.Ieee.{up, down, size, odd, fits}
use Rattle.std.specs.Float.Ieee.Exact.{HasValue}

-- The whole part of the root of an n below 4^k: twice that of n / 4, or one more.
unfoldable pub floor_root : ℕ → ℕ → ℕ
floor_root zero n = 0
floor_root (suc k) n = let r = 2 * floor_root k (n / 4) in cond (nat_le ((r + 1) * (r + 1)) n) (r + 1) r

-- The whole number nearest the root of an n below 4^53: the whole part r, or r + 1 where the root is r + 1/2 or more.
-- It never is r + 1/2, since (2r + 1)² is odd and 4n is even.
unfoldable pub near_root : ℕ → ℕ
near_root n = let r = floor_root 53 n in cond (nat_le ((2 * r + 1) * (2 * r + 1)) (4 * n)) (r + 1) r

-- The f64 nearest the root of n / 2^1074, for an n that is a positive f64's number of smallest ones.
-- √n lies from 2^d up to 2^(d+1), so the root of n · 4^52 / 4^d, which is a whole number, has 53 binary digits before its point.
-- r is the whole number nearest it, and the result is r · 2^d / 2^(52 + 537).
unfoldable pub root_units : ℕ → Float
root_units n = let d = (size n - 1) / 2 in odd 53 false (near_root (n * 4 ^ 52 / 4 ^ d)) d 589

-- Either zero and plus infinity give themselves; what is negative, and NaN, give NaN. m · 2^e is m · up e · 2^1074 / down e smallest ones.
unfoldable pub root_of : Float → Float
root_of nan = nan
root_of (inf s) = cond s nan (inf s)
root_of (fin s m e) = cond (m == 0) (fin s m e) (cond s nan (root_units (m * up e * 2 ^ 1074 / down e)))

-- a root of a root
unfoldable pub fourth_root_of : Float → Float
fourth_root_of x = root_of (root_of x)

-- What "nearest" means, with no digit counted: x is n / u and y is units / u, where u = 2^1074. For any other f64 z = c / u that is not negative, the root
-- of x lies on y's side of the middle of y and z: ((y + z) / 2)² is at most x where z is below y, and at least x where z is above. Times 4u² that is a
-- comparison of whole numbers. `proofs/Nearest.antt` shows that this holds of `root_of x` (`root_nearest`) and of no other f64 (`nothing_else`).
pub record Nearest (n : ℕ) (y : Float) : Type 0 where
  pub units : ℕ
  pub value : HasValue y false units (2 ^ 1074)
  pub below : (z : Float) (c : ℕ) → T (fits binary64 z) → HasValue z false c (2 ^ 1074) → c < units → (units + c) * (units + c) ≤ 4 * (n * 2 ^ 1074)
  pub above : (z : Float) (c : ℕ) → T (fits binary64 z) → HasValue z false c (2 ^ 1074) → units < c → 4 * (n * 2 ^ 1074) ≤ (units + c) * (units + c)
