-- `Region5::ideal` meets its contract: the three arrays are the ideal-gas table row by row, which computing shows. Assumes nothing.
use mathlib.Core.Path.{refl}
use lib.Ieee.{round, of_bits, neg}
use Rattle.arith.specs.Printed.{printed}
use Rattle.terms.specs.Sum.{rows}
use Rattle.hot.specs.Region5.{ideal5}
use Rattle.hot.proofs.region5.Region5Parts.ideal.Goals as goal

pub returns : goal.returns
unfolding rows ideal5 printed round of_bits neg
returns c = refl
