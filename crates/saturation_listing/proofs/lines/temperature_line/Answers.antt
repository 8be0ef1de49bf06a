-- `saturation_listing::lines::temperature_line` meets its contract: four columns of the answer at T, one behind the other. Assumes nothing.
use Prim.Native.Nat.{ℕ}
use mathlib.Core.Path.{ap}
use lib.Ieee.{Float}
use Rattle.std.proofs.Common.{Option}
use mathlib.Core.List.{[], ◌∷◌, ◌++◌}
use Rattle.text.specs.Texts.{column_of, blank, newline, number_column}
use Rattle.text.proofs.Lines.{then_line, said_line, reads_line}
use Rattle.saturation_listing.specs.Listing.{answer_line}
use Rattle.saturation_listing.proofs.lines.temperature_line.Goals as goal

pub returns : goal.returns
unfolding answer_line
returns c =
    said_line
    (ap (answer_line c.args.number) c.saturation-a.ensures)
    (then_line
    (then_line
    (then_line c.decimal.ensures (reads_line c.decimal-2.ensures (ap (λ (n : ℕ). number_column n blank) c.refused_by-refusal.ensures)))
    (reads_line c.decimal-3.ensures (ap (λ (n : ℕ). number_column n blank) c.place-place.ensures)))
    (reads_line c.column.ensures (ap (λ (x : Option Float). column_of x ++ newline ∷ []) c.value.ensures)))
