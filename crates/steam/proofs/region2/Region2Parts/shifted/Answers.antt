-- `Region2::shifted` meets its contract: what it takes from τ is the definition's number, which computing shows. Assumes nothing.
use mathlib.Core.Path.{refl}
use lib.Ieee.{round, of_bits}
use Rattle.arith.specs.Printed.{printed}
use Rattle.steam.proofs.region2.Region2Parts.shifted.Goals as goal

pub returns : goal.returns
unfolding printed round of_bits
returns c = refl
