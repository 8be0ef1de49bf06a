-- At a T that is NaN h and s of liquid are NaN, whatever p is. Assumes nothing.
use mathlib.Core.Path.{◌≡◌, refl}
use lib.Ieee.{Float, nan, round, of_int, sub, mul, div}
use Rattle.arith.specs.Printed.{printed}
use Rattle.equations.specs.declared.Phase.TheVariants.{Liquid}
use Rattle.liquid.specs.Region1.{point1, unrooted_of1, state_of1, state1}
use Rattle.properties.specs.Properties.{unrooted_of, rooted_of}
use Rattle.workings.specs.declared.Given.{Given}
use Rattle.workings.specs.declared.Given.TheVariants.{Enthalpy, Entropy}
use Rattle.workings.specs.Workings.{given_of, unrooted_at, state_at, property_at}

pub liquid_at_nan : (given : Given) (p : Float) → property_at given Liquid p nan ≡ nan
unfolding property_at given_of state_at unrooted_at state1 state_of1 rooted_of unrooted_of1 unrooted_of point1 printed round of_int mul div sub
liquid_at_nan Enthalpy p = refl
liquid_at_nan Entropy p = refl
