-- Any 64 bits as an f64, and which f64 are finite. Definitions only.
use Rattle.std.specs.Prelude.{ℕ, Bool, true, false, cond, Float}
use Rattle.std.specs.Float.{nan, inf, fin, binary64}
use Rattle.std.specs.Float.Ieee.{nan_bits, of_bits}

-- the f64 that 64 bits stand for: of every NaN's pattern the one NaN
unfoldable pub float_of : ℕ → Float
float_of b = cond (nan_bits binary64 b) nan (of_bits binary64 b)

-- neither an infinity nor NaN
unfoldable pub finite : Float → Bool
finite nan = false
finite (inf s) = false
finite (fin s m e) = true
