-- `dense::region3::Region3::response_at` meets its contract: each field is its formula, and R the definition's number, which computing shows. Assumes nothing.
use mathlib.Core.Path.{refl}
use lib.Ieee.{round, of_int, of_bits, neg}
use Rattle.arith.specs.Printed.{printed}
use Rattle.dense.specs.Region3.{response_at3}
use Rattle.dense.proofs.region3.Region3.response_at.Goals as goal

pub returns : goal.returns
unfolding response_at3 printed round of_int of_bits neg
returns c = refl
