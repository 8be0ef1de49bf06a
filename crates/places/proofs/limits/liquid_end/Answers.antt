-- `places::limits::liquid_end` meets its contract: both ways are told apart by the test of the definition. Assumes nothing.
use lib.Ieee.{round, of_bits}
use Rattle.arith.specs.Printed.{printed}
use Rattle.places.specs.Places.{liquid_end}
use Rattle.places.proofs.limits.liquid_end.Goals as goal

pub returns-then-saturates : goal.returns-then-saturates
unfolding liquid_end printed round of_bits
returns-then-saturates c = rw (← c.saturates.ensures, c.if-saturates.true) c.ts.ensures

pub returns-else-saturates : goal.returns-else-saturates
unfolding liquid_end printed round of_bits
returns-else-saturates c = rw (← c.saturates.ensures, c.if-saturates.false)
