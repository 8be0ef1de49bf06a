-- `Region2::residual` meets its contract: the three arrays are the residual table row by row, which computing shows. Assumes nothing.
use mathlib.Core.Path.{refl}
use lib.Ieee.{round, of_bits, neg}
use Rattle.arith.specs.Printed.{printed}
use Rattle.terms.specs.Sum.{rows}
use Rattle.steam.specs.Region2.{residual2}
use Rattle.steam.proofs.region2.Region2Parts.residual.Goals as goal

pub returns : goal.returns
unfolding rows residual2 printed round of_bits neg
returns c = refl
