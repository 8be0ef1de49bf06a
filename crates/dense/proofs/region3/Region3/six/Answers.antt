-- `dense::region3::Region3::six` meets its contract: the three arrays are rows 2 to 40 of Table A9, which computing shows. Assumes nothing.
use mathlib.Core.Path.{refl}
use lib.Ieee.{round, of_bits, neg}
use Rattle.arith.specs.Printed.{printed}
use Rattle.terms.specs.Sum.{rows}
use Rattle.terms.proofs.Lent.{lent_six}
use Rattle.dense.specs.Region3.{table3}
use Rattle.dense.proofs.region3.Region3.six.Goals as goal

pub returns : goal.returns
unfolding rows table3 printed round of_bits neg
returns c = lent_six table3 _ _ c.six.ensures refl
