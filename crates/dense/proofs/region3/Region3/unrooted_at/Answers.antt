-- `dense::region3::Region3::unrooted_at` meets its contract: each field is its formula, and R the definition's number, which computing shows. Assumes nothing.
use mathlib.Core.Path.{refl}
use lib.Ieee.{round, of_int, of_bits}
use Rattle.arith.specs.Printed.{printed}
use Rattle.dense.specs.Region3.{unrooted_at3}
use Rattle.dense.proofs.region3.Region3.unrooted_at.Goals as goal

pub returns : goal.returns
unfolding unrooted_at3 printed round of_int of_bits
returns c = refl
