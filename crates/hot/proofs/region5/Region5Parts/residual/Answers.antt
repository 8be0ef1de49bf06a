-- `Region5::residual` meets its contract: the three arrays are the residual table row by row, which computing shows. Assumes nothing.
use mathlib.Core.Path.{refl}
use lib.Ieee.{round, of_bits, neg}
use Rattle.arith.specs.Printed.{printed}
use Rattle.terms.specs.Sum.{rows}
use Rattle.hot.specs.Region5.{residual5}
use Rattle.hot.proofs.region5.Region5Parts.residual.Goals as goal

pub returns : goal.returns
unfolding rows residual5 printed round of_bits neg
returns c = refl
