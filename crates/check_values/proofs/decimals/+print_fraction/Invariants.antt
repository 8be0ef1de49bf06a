-- `check_values::decimals::print_fraction` ends: each call is for a tenth of the number. Assumes nothing.
use Rattle.check_values.proofs.decimals.+print_fraction.Given as goal

abbrev pub decreases-print_fraction : goal.decreases-print_fraction
decreases-print_fraction g l = l.n
