-- How a row of the desk names the phase that is halved: by the number of its region. Definitions only.
use Rattle.std.specs.Prelude.{ℕ, cond, eqb}
use Rattle.equations.specs.Equations as Equations
use Rattle.equations.specs.Equations.{equation_of}
use Rattle.equations.specs.declared.Phase.{Phase}
use Rattle.equations.specs.declared.Phase.TheVariants.{Liquid, Vapour}

abbrev pub region_of : Phase → ℕ
region_of phase = Equations.region_of (equation_of phase)

-- a row of a sound desk has region 1 or 2
abbrev pub phase_of : ℕ → Phase
phase_of region = cond (eqb region 1) Liquid Vapour
