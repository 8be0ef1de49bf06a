-- `subregions::h2ab::h_2ab` meets its contract: the constants are the coefficients of Table 5, and the code is Eq. (2) term by term. Assumes nothing.
use mathlib.Core.Path.{refl}
use lib.Ieee.{round, of_bits}
use Rattle.arith.specs.Printed.{printed}
use Rattle.subregions.specs.H2ab.{h2ab}
use Rattle.subregions.proofs.h2ab.h_2ab.Goals as goal

pub returns : goal.returns
unfolding h2ab printed round of_bits
returns c = refl
