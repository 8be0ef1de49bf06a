-- The coefficients of 002 as its tables print them: a sign, fourteen digits behind the point, a power of ten. Definitions only.
use Rattle.std.specs.Prelude.{ℕ, true, false, ℤ, Float}
use Rattle.arith.specs.Printed.{coefficient}

-- 0.28319080123804 · 10^-3 is `plus 28319080123804 (less 3)`
abbrev pub plus : ℕ → ℤ → Float
plus digits power = coefficient 14 false digits power

-- -0.60706301565874 · 10^-3 is `minus 60706301565874 (less 3)`
abbrev pub minus : ℕ → ℤ → Float
minus digits power = coefficient 14 true digits power
