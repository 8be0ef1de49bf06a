-- `dense::region3::Region3::slope_of` meets its contract: n₁ is the definition's number, which computing shows. Assumes nothing.
use mathlib.Core.Path.{refl}
use lib.Ieee.{round, of_bits}
use Rattle.arith.specs.Printed.{printed}
use Rattle.dense.proofs.region3.Region3.slope_of.Goals as goal

pub returns : goal.returns
unfolding printed round of_bits
returns c = refl
