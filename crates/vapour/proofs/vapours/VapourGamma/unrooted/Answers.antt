-- `Vapour::unrooted` meets its contract: the quotient is Table 4's, and the rest is what `from_gamma` promises. Assumes nothing.
use lib.Ieee.{of_int, of_bits}
use Rattle.vapour.specs.Vapour.{vapour_unrooted}
use Rattle.vapour.proofs.vapours.VapourGamma.unrooted.Goals as goal

pub returns : goal.returns
unfolding vapour_unrooted of_int of_bits
returns c = c.from_gamma.ensures
