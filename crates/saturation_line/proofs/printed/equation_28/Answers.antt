-- `saturation_line::printed::equation_28` meets its contract: the code is Eq. (28), with what `root` promises, and its literals are Table A11. Assumes nothing.
use mathlib.Core.Path.{◌≡◌, refl}
use lib.Ieee.{round, of_int, of_bits}
use Rattle.arith.specs.Printed.{printed}
use Rattle.elementary.specs.Root.{root_of}
use Rattle.saturation_line.specs.Printed.{θOf, discriminant, equation28}
use Rattle.saturation_line.proofs.printed.equation_28.Goals as goal

pub returns : goal.returns
unfolding equation28 printed round of_int of_bits
returns c =
    let rooted : _ ≡ root_of (discriminant (θOf c.args.t)) = c.root.ensures in
    rw rooted refl
