-- The gas constant of region 1 in code is the definition's number, which computing shows. Assumes nothing.
use mathlib.Core.Path.{refl}
use lib.Ieee.{round, of_bits}
use Rattle.arith.specs.Printed.{printed}
use Rattle.liquid.proofs.region1.Region1Basic.R.Goals as goal

pub returns : goal.returns
unfolding printed round of_bits
returns c = refl
