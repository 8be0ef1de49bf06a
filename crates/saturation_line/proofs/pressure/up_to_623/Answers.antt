-- `saturation_line::pressure::up_to_623` meets its contract: from 273.15 K on, and then up to 623.15 K; its literals are the printed temperatures,
-- which computing shows. Assumes nothing.
use mathlib.Core.Path.{◌≡◌, refl}
use mathlib.Core.Bool.{true, false}
use lib.Ieee.{le, round, of_bits}
use Rattle.arith.specs.Printed.{printed}
use Rattle.saturation_line.specs.Pressure.{t273}
use Rattle.saturation_line.proofs.pressure.up_to_623.Goals as goal

pub returns-then-t : goal.returns-then-t
unfolding printed round of_bits
returns-then-t c = let in-it : le t273 c.args.t ≡ true = c.if-t.true in rw in-it refl

pub returns-else-t : goal.returns-else-t
unfolding printed round of_bits
returns-else-t c = let not-in-it : le t273 c.args.t ≡ false = c.if-t.false in rw not-in-it refl
