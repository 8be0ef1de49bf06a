-- `text::fill_digits` meets its contract. The invariant: the digits left to be written, with those that stand behind them, are all of them. Assumes nothing.
use mathlib.Core.Path.{◌≡◌}
use mathlib.Core.List.{◌++◌}
use lib.ListN.{length, drop}
use Rattle.text.specs.Texts.{digits_in}
use Rattle.text.proofs.fill_digits.Given as goal

abbrev pub invariant-loop-i : goal.invariant-loop-i
invariant-loop-i l = digits_in l.base l.i l.left ++ drop l.i l.text ≡ digits_in l.base (length l.initial.text) l.n
