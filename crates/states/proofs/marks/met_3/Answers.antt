-- `states::marks::met_3` meets its contract: properties and mark are made of one density and one φ. Assumes nothing.
use mathlib.Core.Path.{◌≡◌, refl}
use lib.Ieee.{round, of_bits}
use Rattle.arith.specs.Printed.{printed}
use Rattle.workings.specs.Workings.{unrooted_at}
use Rattle.states.specs.Marks.{near, p_margin}
use Rattle.states.proofs.marks.met_3.Goals as goal

pub returns : goal.returns
unfolding unrooted_at printed round of_bits
returns c =
    let mark : c.near.result ≡ near p_margin c.pressure_of-pressure.result c.args.p = c.near.ensures in
    rw (mark, c.unrooted_of.ensures, c.pressure_of-pressure.ensures, c.phi-f.ensures, c.density-found.ensures) refl
