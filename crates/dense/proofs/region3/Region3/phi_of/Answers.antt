-- `dense::region3::Region3::phi_of` meets its contract: ln δ and φδ are what `log` and `slope_of` promise, and n₁ is the definition's number, which computing shows. Assumes nothing.
use mathlib.Core.Path.{refl}
use lib.Ieee.{round, of_bits, neg}
use Rattle.arith.specs.Printed.{printed}
use Rattle.dense.specs.Region3.{phi_of3}
use Rattle.dense.proofs.region3.Region3.phi_of.Goals as goal

pub returns : goal.returns
unfolding phi_of3 printed round of_bits neg
returns c = rw (c.slope_of-fd.ensures, c.log-log.ensures) refl
