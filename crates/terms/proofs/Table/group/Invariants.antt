-- `terms::Table::group` meets its contract: at row l, the six sums of what is left, begun at r, are those of the rows from k on, begun at s. Assumes nothing.
use mathlib.Core.Path.{◌≡◌}
use lib.ListN.{drop}
use Rattle.terms.specs.Sum.{rows_of}
use Rattle.terms.specs.Six.{six_from}
use Rattle.terms.proofs.Table.group.Given as goal

abbrev pub invariant-loop-l : goal.invariant-loop-l
invariant-loop-l l = six_from l.a l.b l.r (drop l.l (rows_of l.self)) ≡ six_from l.a l.b l.initial.r (drop l.k (rows_of l.self))
