-- Numbers for people: an f64 in plain decimals, as many as asked for and at most three, rounded to the nearest on its exact value, a half away from zero.
-- 1.005, whose f64 lies below it, is `1.00` with two decimals, and 0.125 is `0.13`. Definitions only.
use Rattle.std.specs.Prelude.{ℕ, zero, suc, ◌+◌, ◌*◌, ◌/◌, ◌%◌, ◌^◌, min, Bool, false, cond, List, [], ◌∷◌, ◌++◌, ltb, Float}
use Rattle.std.specs.Float.{nan, inf, fin}
use Rattle.std.specs.Float.Ieee.{up, down}
use Rattle.std.specs.Float.Ieee.Positive.{num, den}
use Rattle.text.specs.Texts.{decimal_of, value_of}

-- the whole number nearest a / b, a half counted up: a / b + 1/2 without its fraction
unfoldable pub nearest_of : ℕ → ℕ → ℕ
nearest_of a b = (2 * a + b) / (2 * b)

-- The whole number nearest |x| · scale. A finite x is num x / den x in size, exactly.
unfoldable pub scaled_of : ℕ → Float → ℕ
scaled_of scale x = nearest_of (num x * scale) (den x)

-- the last k digits of n, zeros in front included
unfoldable pub digits_from : ℕ → ℕ → List ℕ
digits_from zero n = []
digits_from (suc k) n = digits_from k (n / 10) ++ (48 + n % 10) ∷ []

-- n / 10^k with its k decimals; with none there is no point
unfoldable pub pointed_of : ℕ → ℕ → List ℕ
pointed_of zero n = decimal_of n
pointed_of (suc k) n = decimal_of (n / 10 ^ suc k) ++ 46 ∷ digits_from (suc k) n

-- `-` in front of what is below zero; -0 has it too, and so has what is rounded to zero
unfoldable pub sign_of : Float → List ℕ
sign_of nan = []
sign_of (inf s) = []
sign_of (fin s m e) = cond s (45 ∷ []) []

-- whether x lies between -2^53 and 2^53: up to there every whole number is an f64
unfoldable pub modest : Float → Bool
modest nan = false
modest (inf s) = false
modest (fin s m e) = ltb (m * up e) (2 ^ 53 * down e)

-- x with so many decimals. What is not modest stands as in a column: `nan`, or its bits in hexadecimal.
unfoldable pub fixed_of : Float → ℕ → List ℕ
fixed_of x places = let k = min places 3 in cond (modest x) (sign_of x ++ pointed_of k (scaled_of (10 ^ k) x)) (value_of x)
