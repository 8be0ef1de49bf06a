-- `liquid::region1::both` meets its contract: the table's slices are Table A2 row by row, which computing shows. Assumes nothing.
use mathlib.Core.Path.{refl}
use lib.Ieee.{round, of_bits, neg}
use Rattle.arith.specs.Printed.{printed}
use Rattle.terms.specs.Sum.{rows}
use Rattle.terms.proofs.Lent.{lent_six}
use Rattle.liquid.specs.Region1.{table1}
use Rattle.liquid.proofs.region1.both.Goals as goal

pub returns : goal.returns
unfolding rows table1 printed round of_bits neg
returns c = lent_six table1 _ _ c.six.ensures refl
