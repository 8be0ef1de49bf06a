-- `elementary::logs::log_sum` meets its contract: the series begins with 1/23 and ends after eleven turns. Assumes nothing.
use Rattle.std.proofs.Common.{refl, ap, ◌∙◌, arith}
use Rattle.elementary.specs.Log.{series}
use Rattle.arith.proofs.Literals.{one_is}
use Rattle.elementary.proofs.Logarithm.{twenty_three_is, series_step, sum_is}
use Rattle.elementary.proofs.logs.log_sum.Goals as goal

pub loop-j-init : goal.loop-j-init
unfolding series
loop-j-init c = rw (one_is, twenty_three_is)

pub loop-j-preserved : goal.loop-j-preserved
loop-j-preserved c = rw c.from.ensures (series_step _ c.loop-j.j c.loop-j.invariant)

pub returns : goal.returns
returns c = sum_is _ _ refl (c.loop-j.invariant ∙ ap (series _) (omega arith))
