-- `check_values::decimals::print_argument` is safe and ends: the unit falls and stays above 0. Assumes nothing.
use Rattle.std.proofs.Common.{◌<◌}
use Rattle.check_values.proofs.decimals.print_argument.Given as goal

abbrev pub invariant-loop-unit : goal.invariant-loop-unit
invariant-loop-unit g l = 0 < l.unit

abbrev pub decreases-loop-unit : goal.decreases-loop-unit
decreases-loop-unit g l = l.unit
