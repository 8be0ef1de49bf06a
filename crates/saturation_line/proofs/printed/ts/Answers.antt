-- `saturation_line::printed::ts` meets its contract: the code is Eq. (55), with what `root` and `fourth_root` promise, and its literals are Table A11.
-- Assumes nothing.
use mathlib.Core.Path.{refl}
use lib.Ieee.{round, of_int, of_bits}
use Rattle.arith.specs.Printed.{printed}
use Rattle.saturation_line.specs.Printed.{ts_of}
use Rattle.saturation_line.proofs.printed.ts.Goals as goal

pub returns : goal.returns
unfolding ts_of printed round of_int of_bits
returns c = rw (c.root-2.ensures, c.root.ensures, c.fourth_root-beta.ensures) refl
