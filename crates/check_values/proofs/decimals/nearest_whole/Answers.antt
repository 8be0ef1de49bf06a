-- `check_values::decimals::nearest_whole` is safe: its two tests are the two ends of what can be cut to a u64. Assumes nothing.
use Rattle.std.proofs.Common.{T, sym, subst}
use lib.Ieee.{of_bits, neg}
use Rattle.check_values.proofs.decimals.nearest_whole.Goals as goal

pub truncating_f64_to_u64-requires : goal.truncating_f64_to_u64-requires
unfolding of_bits neg
truncating_f64_to_u64-requires c = record { lower_bound = subst T (sym c.if-above.true) tt; upper_bound = subst T (sym c.if-above-2.true) tt }
