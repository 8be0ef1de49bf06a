-- `dense::densities::density` meets its contract: after k turns of the loop the bracket is the first, halved k times. Assumes nothing.
use mathlib.Core.Path.{◌≡◌}
use Rattle.brackets.specs.Brackets.{times}
use Rattle.dense.specs.Density.{first3, halved3}
use Rattle.dense.proofs.densities.density.Given as goal

abbrev pub invariant-loop : goal.invariant-loop
invariant-loop l = l.b ≡ times (halved3 l.p l.t) l.counter (first3 l.p l.t)
