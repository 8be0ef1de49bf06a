-- `properties::gibbs::from_gamma` meets its contract: each field is its formula, with what `enthalpy` and `entropy` promise. Assumes nothing.
use mathlib.Core.Path.{refl}
use lib.Ieee.{of_int, of_bits}
use Rattle.properties.specs.Properties.{unrooted_of}
use Rattle.properties.proofs.gibbs.from_gamma.Goals as goal

pub returns : goal.returns
unfolding unrooted_of of_int of_bits
returns c = rw (c.entropy.ensures, c.enthalpy.ensures) refl
