-- `boundaries::p_b23` meets its contract: its literals are Table A1, which computing shows, and the rest is what `quadratic` promises. Assumes
-- nothing.
use lib.Ieee.{round, of_bits, neg}
use Rattle.arith.specs.Printed.{printed}
use Rattle.boundaries.specs.Boundaries.{p_b23}
use Rattle.boundaries.proofs.p_b23.Goals as goal

pub returns : goal.returns
unfolding p_b23 printed round of_bits neg
returns c = c.quadratic.ensures
