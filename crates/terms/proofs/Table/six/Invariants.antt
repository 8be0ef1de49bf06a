-- `terms::Table::six` meets its contract: after k rows, the six sums of what is left, begun at s, are the whole sums. Assumes nothing.
use Prim.Native.Nat.{◌≤◌, ◌-◌}
use mathlib.Core.Path.{◌≡◌}
use lib.ListN.{length, drop}
use Rattle.terms.specs.Sum.{rows_of}
use Rattle.terms.specs.Six.{six_of, six_from}
use Rattle.terms.proofs.Table.six.Given as goal

abbrev pub invariant-loop-k : goal.invariant-loop-k
invariant-loop-k l = (l.k ≤ length (rows_of l.self)) × (six_from l.a l.b l.s (drop l.k (rows_of l.self)) ≡ six_of (rows_of l.self) l.a l.b)

abbrev pub decreases-loop-k : goal.decreases-loop-k
decreases-loop-k l = l.m - l.k
