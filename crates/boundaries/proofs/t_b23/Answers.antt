-- `boundaries::t_b23` meets its contract: the code is Eq. (11), with what `root` promises, and its literals are Table A1. Assumes nothing.
use mathlib.Core.Path.{refl}
use lib.Ieee.{round, of_bits}
use Rattle.arith.specs.Printed.{printed}
use Rattle.boundaries.specs.Boundaries.{t_b23}
use Rattle.boundaries.proofs.t_b23.Goals as goal

pub returns : goal.returns
unfolding t_b23 printed round of_bits
returns c = rw c.root.ensures refl
