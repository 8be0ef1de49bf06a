-- `arith::powers::power` meets its contract: x^k is x to the size of k, or 1 over that. Assumes nothing.
use mir.Facts.{to_z-of_z}
use Rattle.arith.proofs.Literals.{one_is}
use Rattle.arith.proofs.Exponents.{power_below, power_above}
use Rattle.arith.proofs.powers.power.Goals as goal

pub returns-then-k-lt0 : goal.returns-then-k-lt0
returns-then-k-lt0 c =
    let read = to_z-of_z c.ranges.k in
    let size = rw read at c.unsigned_abs-size.ensures.value in
    rw (one_is, c.raised.ensures, size) (power_below c.args.x c.args.k (rw read at c.if-k-lt0.true))

pub returns-else-k-lt0 : goal.returns-else-k-lt0
returns-else-k-lt0 c =
    let read = to_z-of_z c.ranges.k in
    let size = rw read at c.unsigned_abs-size.ensures.value in
    rw (c.raised-else-k-lt0.ensures, size) (power_above c.args.x c.args.k (rw read at c.if-k-lt0.false))
