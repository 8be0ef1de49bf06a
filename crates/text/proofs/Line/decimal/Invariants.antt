-- `text::Line::decimal` meets its contract. The invariant: the digits left to be written, with what stands behind them, are the whole text (`decimal_next`
-- moves one digit over), and there is a place for each. The measure is how many places are left. Assumes nothing.
use Prim.Native.Nat.{◌^◌, ◌≤◌, ◌<◌}
use mathlib.Core.Path.{◌≡◌}
use mathlib.Core.List.{[], ◌∷◌, ◌++◌}
use lib.ListN.{length, drop}
use Rattle.text.specs.Texts.{decimal_from, decimal_of}
use Rattle.text.proofs.Line.decimal.Given as goal

abbrev pub invariant-loop-left : goal.invariant-loop-left
invariant-loop-left l =
    (l.first ≤ 20) × (1 ≤ l.first) × (l.left < 10 ^ l.first) × (decimal_from l.first l.left ++ drop l.first l.text ≡ decimal_of l.n ++ l.end ∷ []) × (length l.text ≡ 21)

abbrev pub decreases-loop-left : goal.decreases-loop-left
decreases-loop-left l = l.first
