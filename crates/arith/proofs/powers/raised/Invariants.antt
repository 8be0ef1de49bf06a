-- `arith::powers::raised` meets its contract: after so many turns r is x to that power. Assumes nothing.
use mathlib.Core.Path.{◌≡◌}
use Rattle.arith.specs.Power.{raised}
use Rattle.arith.proofs.powers.raised.Given as goal

abbrev pub invariant-loop : goal.invariant-loop
invariant-loop l = l.r ≡ raised l.x l.counter
