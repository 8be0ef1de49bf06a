-- The reducing temperature of region 2 in code is the definition's number, which computing shows. Assumes nothing.
use mathlib.Core.Path.{refl}
use lib.Ieee.{of_int, of_bits}
use Rattle.steam.proofs.region2.Region2Basic.T.Goals as goal

pub returns : goal.returns
unfolding of_int of_bits
returns c = refl
