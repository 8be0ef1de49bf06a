-- `elementary::logs::log_sum` meets its contract: after j turns t is `series q j`. Assumes nothing.
use Rattle.std.proofs.Common.{◌≡◌}
use Rattle.elementary.specs.Log.{series}
use Rattle.elementary.proofs.logs.log_sum.Given as goal

abbrev pub invariant-loop-j : goal.invariant-loop-j
invariant-loop-j l = l.t ≡ series l.q l.j
