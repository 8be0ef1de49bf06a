-- `Region1::gamma` meets its contract: the sums are what `point` and `six` promise. Assumes nothing.
use mathlib.Core.Path.{refl}
use lib.Ieee.{of_bits, neg}
use Rattle.terms.specs.Six.{six_of}
use Rattle.liquid.specs.Region1.{gamma1, sum1}
use Rattle.liquid.proofs.region1.Region1Basic.gamma.Goals as goal

pub returns : goal.returns
unfolding gamma1 sum1 six_of of_bits neg
returns c = rw (c.six-s.ensures, c.point.ensures) refl
