-- The basic equations by the numbers of their regions, and the equations of the two phases. Definitions only.
use Rattle.std.specs.Prelude.{ℕ, Bool, true, false}
use Rattle.equations.specs.declared.Equation.{Equation}
use Rattle.equations.specs.declared.Equation.TheVariants.{Region1, Region2, Region3, Region5}
use Rattle.equations.specs.declared.Phase.{Phase}
use Rattle.equations.specs.declared.Phase.TheVariants.{Liquid, Vapour}

abbrev pub region_of : Equation → ℕ
region_of Region1 = 1
region_of Region2 = 2
region_of Region3 = 3
region_of Region5 = 5

-- whether an equation is that of a phase
abbrev pub is_of : Equation → Phase → Bool
is_of Region1 Liquid = true
is_of Region1 Vapour = false
is_of Region2 Liquid = false
is_of Region2 Vapour = true
is_of Region3 Liquid = false
is_of Region3 Vapour = false
is_of Region5 Liquid = false
is_of Region5 Vapour = false

-- the phases that backward equations reach
abbrev pub equation_of : Phase → Equation
equation_of Liquid = Region1
equation_of Vapour = Region2
