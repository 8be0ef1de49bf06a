-- `saturation_line::pressure::above_623` meets its contract: above 623.15 K, and then up to 647.096 K; its literals are the printed temperatures,
-- which computing shows. Assumes nothing.
use mathlib.Core.Path.{◌≡◌, refl}
use mathlib.Core.Bool.{true, false}
use lib.Ieee.{lt, round, of_bits}
use Rattle.arith.specs.Printed.{printed}
use Rattle.saturation_line.specs.Pressure.{t623}
use Rattle.saturation_line.proofs.pressure.above_623.Goals as goal

pub returns-then-t : goal.returns-then-t
unfolding printed round of_bits
returns-then-t c = let in-it : lt t623 c.args.t ≡ true = c.if-t.true in rw in-it refl

pub returns-else-t : goal.returns-else-t
unfolding printed round of_bits
returns-else-t c = let not-in-it : lt t623 c.args.t ≡ false = c.if-t.false in rw not-in-it refl
