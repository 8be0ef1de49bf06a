-- The reducing pressure of region 5 in code is the definition's number, which computing shows. Assumes nothing.
use mathlib.Core.Path.{refl}
use lib.Ieee.{of_int, of_bits}
use Rattle.hot.proofs.region5.Region5Basic.P.Goals as goal

pub returns : goal.returns
unfolding of_int of_bits
returns c = refl
