-- `sheet::rows::kinds_known` meets its contract. The invariant: the rows passed have known kinds, so they start in the slice. Assumes nothing.
use mathlib.Core.Path.{◌≡◌}
use mathlib.Core.Bool.{true}
use Rattle.sheet.specs.Rows.{kinds_known}
use Rattle.sheet.proofs.rows.kinds_known.Given as goal

abbrev pub invariant-loop-k : goal.invariant-loop-k
invariant-loop-k l = kinds_known l.k l.rows ≡ true
