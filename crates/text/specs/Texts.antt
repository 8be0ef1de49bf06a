-- Text in bytes of ASCII: whole numbers in decimal, 64 bits in hexadecimal, the f64 column of the programs, and texts one behind the other. Definitions only.
use Rattle.std.specs.Prelude.{ℕ, zero, suc, ◌+◌, ◌/◌, ◌%◌, cond, List, [], ◌∷◌, ◌++◌, ltb, Float, Option, Some, None}
use Rattle.std.specs.Float.Ieee.{is_nan, to_bits}
use Rattle.std.specs.Float.{binary64}

-- the digits of a number below 10^k, with no zero in front: those of n / 10, and then the last
unfoldable pub decimal_from : ℕ → ℕ → List ℕ
decimal_from zero n = []
decimal_from (suc k) n = cond (ltb n 10) ((48 + n) ∷ []) (decimal_from k (n / 10) ++ (48 + n % 10) ∷ [])

-- 20 digits write every u64
unfoldable pub decimal_of : ℕ → List ℕ
decimal_of n = decimal_from 20 n

-- 0 to 9, a to f
unfoldable pub hex_digit : ℕ → ℕ
hex_digit d = cond (ltb d 10) (48 + d) (87 + d)

-- the last k digits of n in a base up to 16, zeros in front included: those of n / base, and then the last
unfoldable pub digits_in : ℕ → ℕ → ℕ → List ℕ
digits_in base zero n = []
digits_in base (suc k) n = digits_in base k (n / base) ++ hex_digit (n % base) ∷ []

-- k hexadecimal digits: those of n / 16, and then the last
unfoldable pub hex_from : ℕ → ℕ → List ℕ
hex_from zero n = []
hex_from (suc k) n = hex_from k (n / 16) ++ hex_digit (n % 16) ∷ []

unfoldable pub hex_of : ℕ → List ℕ
hex_of b = hex_from 16 b

-- an f64 by its bits; the one NaN by its name
unfoldable pub value_of : Float → List ℕ
value_of x = cond (is_nan x) (110 ∷ 97 ∷ 110 ∷ []) (hex_of (to_bits binary64 x))

-- a column of a line: a value, or `-` where there is none
unfoldable pub column_of : Option Float → List ℕ
column_of (Some x) = value_of x
column_of None = 45 ∷ []

-- what stands behind a column, and behind the last
abbrev pub blank : ℕ
blank = 32

abbrev pub newline : ℕ
newline = 10

-- a number's column
abbrev pub number_column : ℕ → ℕ → List ℕ
number_column n end = decimal_of n ++ end ∷ []

-- an f64's column
abbrev pub float_column : Float → ℕ → List ℕ
float_column x end = column_of (Some x) ++ end ∷ []

-- n texts one behind the other, numbered from 0
unfoldable pub joined : (ℕ → List ℕ) → ℕ → List ℕ
joined text zero = []
joined text (suc k) = joined text k ++ text k
