-- `pull::in_reach` meets its contract: how far is asked only past the line. Assumes nothing.
use mathlib.Core.Path.{refl}
use lib.Ieee.{round, of_bits}
use Rattle.arith.specs.Printed.{printed}
use Rattle.pull.specs.Pull.{in_reach}
use Rattle.pull.proofs.in_reach.Goals as goal

pub returns-then-is_past : goal.returns-then-is_past
unfolding in_reach printed round of_bits
returns-then-is_past c = rw (← c.is_past.ensures, c.if-is_past.true, ← c.past_by.ensures) refl

pub returns-else-is_past : goal.returns-else-is_past
unfolding in_reach
returns-else-is_past c = rw (← c.is_past.ensures, c.if-is_past.false) refl
