-- `quotients::print` is safe and lists every row: the place behind each text is within the room, and k rows are listed before turn k. Assumes nothing.
use mathlib.Core.Path.{◌≡◌}
use Rattle.quotients.proofs.print.Given as goal

abbrev pub invariant-loop-k : goal.invariant-loop-k
invariant-loop-k g l = l.listed ≡ l.k
