-- The four operations of f64, as every definition of this project writes them: the exact result, rounded to the nearest f64, a tie to the even one.
-- The circled signs are those of the literature on floating point. Each stands for the kit's own account of IEEE 754, `lib.Ieee`, at binary64. Definitions only.
use Rattle.std.specs.Prelude.{ℕ, pos, Float}
use Rattle.std.specs.Float.{binary64}
use Rattle.std.specs.Float.Ieee.{of_int, add, sub, mul, div}

infixl 65 ◌⊕◌ ◌⊖◌
infixl 70 ◌⊗◌ ◌⊘◌
abbrev pub ◌⊕◌ : Float → Float → Float
x ⊕ y = add binary64 x y

abbrev pub ◌⊖◌ : Float → Float → Float
x ⊖ y = sub binary64 x y

abbrev pub ◌⊗◌ : Float → Float → Float
x ⊗ y = mul binary64 x y

abbrev pub ◌⊘◌ : Float → Float → Float
x ⊘ y = div binary64 x y

-- a whole number as an f64
abbrev pub f64 : ℕ → Float
f64 n = of_int binary64 (pos n)
