-- Whole powers of an f64, each formed from the one before: x^0 = 1, x^k = x^(k-1) · x, x^(-k) = 1 / x^k. Definitions only.
use Rattle.std.specs.Prelude.{ℕ, zero, suc, ℤ, pos, negsuc, Float}
use Rattle.arith.specs.F64.{f64, ◌⊗◌, ◌⊘◌}

-- x^k for a k that is not negative
unfoldable pub raised : Float → ℕ → Float
raised x zero = f64 1
raised x (suc k) = raised x k ⊗ x

-- x^k for any whole k: `negsuc k` is -(k + 1)
unfoldable pub power_of : Float → ℤ → Float
power_of x (pos k) = raised x k
power_of x (negsuc k) = f64 1 ⊘ raised x (suc k)

-- y·x·x.., k products one after the other: how a power goes on from a lower one
unfoldable pub multiplied : Float → Float → ℕ → Float
multiplied x y zero = y
multiplied x y (suc k) = multiplied x y k ⊗ x
