-- `subregions::subregion::Subregion::by_hs` meets its contract: 5.85 is the constant, and each return stands under the tests that led there. Assumes nothing.
use lib.Ieee.{round, of_bits}
use Rattle.std.proofs.Common.{rules}
use Rattle.arith.specs.Printed.{printed}
use Rattle.subregions.specs.Subregions.{by_hs}
use Rattle.subregions.proofs.subregion.Subregion.by_hs.Goals as goal

pub returns-then-s : goal.returns-then-s
unfolding by_hs printed round of_bits
returns-then-s c = search rules

pub returns-then-h-h_2ab : goal.returns-then-h-h_2ab
unfolding by_hs printed round of_bits
returns-then-h-h_2ab c = search rules

pub returns-else-h-h_2ab : goal.returns-else-h-h_2ab
unfolding by_hs printed round of_bits
returns-else-h-h_2ab c = search rules
