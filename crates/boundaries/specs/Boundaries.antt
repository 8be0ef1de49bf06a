-- The boundaries between regions 2 and 3, 002, Eqs. (10) and (11), and between subregions 2b and 2c, Eq. (41), evaluated as printed at any argument.
-- Definitions only.
use Rattle.std.specs.Prelude.{pos, Float}
use Rattle.arith.specs.F64.{◌⊕◌, ◌⊖◌, ◌⊗◌, ◌⊘◌}
use Rattle.arith.specs.Printed.{less}
use Rattle.elementary.specs.Root.{root_of}
use Rattle.arith.specs.Coefficients.{plus, minus}

-- The form of Eqs. (10) and (41): n₁ + n₂·x + n₃·x²
abbrev pub quadratic : Float → Float → Float → Float → Float
quadratic n₁ n₂ n₃ x = n₁ ⊕ n₂ ⊗ x ⊕ n₃ ⊗ (x ⊗ x)

-- Table A1: n₃, which Eqs. (10) and (11) share
abbrev b23₃ : Float
b23₃ = plus 10192970039326 (less 2)

-- Eq. (10), in MPa for T in K; Table A1: n₁, n₂
unfoldable pub p_b23 : Float → Float
p_b23 t = quadratic (plus 34805185628969 (pos 3)) (minus 11671859879975 (pos 1)) b23₃ t

-- Eq. (11), in K for p in MPa; Table A1: n₄, n₅
unfoldable pub t_b23 : Float → Float
t_b23 p = plus 57254459862746 (pos 3) ⊕ root_of ((p ⊖ plus 13918839778870 (pos 2)) ⊘ b23₃)

-- Eq. (41), in MPa for h in kJ/kg; Table A20: n₁, n₂, n₃
unfoldable pub p2bc : Float → Float
p2bc h = quadratic (plus 90584278514723 (pos 3)) (minus 67955786399241 (pos 0)) (plus 12809002730136 (less 3)) h
