-- `Region2::ideal` meets its contract: the three arrays are the ideal-gas table row by row, which computing shows. Assumes nothing.
use mathlib.Core.Path.{refl}
use lib.Ieee.{round, of_bits, neg}
use Rattle.arith.specs.Printed.{printed}
use Rattle.terms.specs.Sum.{rows}
use Rattle.steam.specs.Region2.{ideal2}
use Rattle.steam.proofs.region2.Region2Parts.ideal.Goals as goal

pub returns : goal.returns
unfolding rows ideal2 printed round of_bits neg
returns c = refl
