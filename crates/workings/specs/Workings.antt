-- The properties of a state and its slopes, by a basic equation at p and T. Definitions only.
use Rattle.std.specs.Prelude.{Float}
use Rattle.properties.specs.Properties.{rooted_of}
use Rattle.properties.specs.declared.State.{State}
use Rattle.properties.specs.declared.Unrooted.{Unrooted}
use Rattle.liquid.specs.Region1.{gamma1, unrooted_of1, response_of1}
use Rattle.steam.specs.Region2.{gamma2, unrooted_of2, response_of2}
use Rattle.hot.specs.Region5.{gamma5, unrooted_of5, response_of5}
use Rattle.dense.specs.Region3.{phi3, pressure_of3, unrooted_of3, response_of3}
use Rattle.dense.specs.Density.{density3}
use Rattle.slopes.specs.Slopes.{slopes_pt, slopes_vt}
use Rattle.slopes.specs.declared.Slopes.{Slopes}
use Rattle.equations.specs.Equations.{equation_of}
use Rattle.workings.specs.declared.Given.{Given}
use Rattle.workings.specs.declared.Given.TheVariants.{Enthalpy, Entropy}
use Rattle.equations.specs.declared.Equation.{Equation}
use Rattle.equations.specs.declared.Equation.TheVariants.{Region1, Region2, Region3, Region5}
use Rattle.equations.specs.declared.Phase.{Phase}
use Rattle.workings.specs.declared.worked.Worked.{Worked}

-- the six properties, of w its square; those of region 3 at the density that is found for p and T
unfoldable pub unrooted_at : Equation → Float → Float → Unrooted
unrooted_at Region1 p t = unrooted_of1 p t (gamma1 p t)
unrooted_at Region2 p t = unrooted_of2 p t (gamma2 p t)
unrooted_at Region3 p t = let ρ = density3 p t in unrooted_of3 ρ t (phi3 ρ t)
unrooted_at Region5 p t = unrooted_of5 p t (gamma5 p t)

-- with w itself
unfoldable pub state_at : Equation → Float → Float → State
state_at equation p t = rooted_of (unrooted_at equation p t)

-- the two rows of slopes: by p and T, and in region 3 by v and T, with the equation's own pressure at the density found
unfoldable pub slopes_at : Equation → Float → Float → Slopes
slopes_at Region1 p t = let g = gamma1 p t in slopes_pt p t (unrooted_of1 p t g) (response_of1 p t g)
slopes_at Region2 p t = let g = gamma2 p t in slopes_pt p t (unrooted_of2 p t g) (response_of2 p t g)
slopes_at Region3 p t = let ρ = density3 p t in let φ = phi3 ρ t in slopes_vt (pressure_of3 ρ t φ) t (unrooted_of3 ρ t φ) (response_of3 ρ t φ)
slopes_at Region5 p t = let g = gamma5 p t in slopes_pt p t (unrooted_of5 p t g) (response_of5 p t g)

-- what is worked at once
unfoldable pub worked_at : Equation → Float → Float → Worked
worked_at equation p t = record { unrooted = unrooted_at equation p t; slopes = slopes_at equation p t }

-- of an h and an s, the one that is given
unfoldable pub given_of : Given → Float → Float → Float
given_of Enthalpy h s = h
given_of Entropy h s = s

-- the h or s of a phase
unfoldable pub property_at : Given → Phase → Float → Float → Float
property_at given phase p t = let a = state_at (equation_of phase) p t in given_of given a.h a.s
