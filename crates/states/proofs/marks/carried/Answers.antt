-- `states::marks::carried` meets its contract: state, mark and slopes are made of one working. Assumes nothing.
use mathlib.Core.Path.{refl}
use lib.Ieee.{round, of_bits}
use Rattle.arith.specs.Printed.{printed}
use Rattle.workings.specs.Workings.{state_at, worked_at}
use Rattle.states.proofs.marks.carried.Goals as goal

pub returns : goal.returns
unfolding state_at worked_at printed round of_bits
returns c = rw (c.both_near.ensures, c.equation_of.ensures, c.worked_at-worked.ensures) refl
