-- `subregions::subregion::Subregion::by_ps` meets its contract: 5.85 is the constant, and each return stands under the tests that led there. Assumes nothing.
use lib.Ieee.{round, of_bits}
use Rattle.std.proofs.Common.{rules}
use Rattle.arith.specs.Printed.{printed}
use Rattle.subregions.specs.Subregions.{by_ps}
use Rattle.subregions.proofs.subregion.Subregion.by_ps.Goals as goal

pub returns-then-s : goal.returns-then-s
unfolding by_ps printed round of_bits
returns-then-s c = search rules

pub returns-else-s : goal.returns-else-s
unfolding by_ps printed round of_bits
returns-else-s c = search rules
