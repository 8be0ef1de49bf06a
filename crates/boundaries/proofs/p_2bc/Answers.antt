-- `boundaries::p_2bc` meets its contract: its literals are Table A20, which computing shows, and the rest is what `quadratic` promises.
-- Assumes nothing.
use lib.Ieee.{round, of_bits, neg}
use Rattle.arith.specs.Printed.{printed}
use Rattle.boundaries.specs.Boundaries.{p2bc}
use Rattle.boundaries.proofs.p_2bc.Goals as goal

pub returns : goal.returns
unfolding p2bc printed round of_bits neg
returns c = c.quadratic.ensures
