-- `subregions::subregion::is_2a` meets its contract: the constant is 4. Assumes nothing.
use mathlib.Core.Path.{refl}
use lib.Ieee.{of_int, of_bits}
use Rattle.subregions.specs.Subregions.{is2a}
use Rattle.subregions.proofs.subregion.is_2a.Goals as goal

pub returns : goal.returns
unfolding is2a of_int of_bits
returns c = refl
