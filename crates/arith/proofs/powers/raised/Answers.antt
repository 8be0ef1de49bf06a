-- `arith::powers::raised` meets its contract: after so many turns r is x to that power. Assumes nothing.
use Rattle.arith.specs.Power.{raised}
use Rattle.arith.proofs.Literals.{one_is}
use Rattle.arith.proofs.Exponents.{raised_step}
use Rattle.arith.proofs.powers.raised.Goals as goal

pub loop-init : goal.loop-init
unfolding raised
loop-init c = one_is

pub loop-preserved : goal.loop-preserved
loop-preserved c = raised_step _ _ c.loop.invariant
