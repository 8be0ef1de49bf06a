-- `dense::region3::Region3::point` meets its contract: its constants are the definition's numbers, which computing shows. Assumes nothing.
use mathlib.Core.Path.{refl}
use lib.Ieee.{round, of_int, of_bits}
use Rattle.arith.specs.Printed.{printed}
use Rattle.dense.specs.Region3.{point3}
use Rattle.dense.proofs.region3.Region3.point.Goals as goal

pub returns : goal.returns
unfolding point3 printed round of_int of_bits
returns c = refl
