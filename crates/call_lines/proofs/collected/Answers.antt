-- `call_lines::collected` meets its contract: a zero, ten columns, and a number with its bracket, one behind the other. Assumes nothing.
use Prim.Native.Nat.{ℕ}
use mathlib.Core.Path.{ap}
use Rattle.text.specs.Texts.{blank, number_column}
use Rattle.text.proofs.Lines.{then_line, said_line, reads_line}
use Rattle.call_lines.proofs.Pieces.{of_columns}
use Rattle.call_lines.proofs.collected.Goals as goal

pub returns : goal.returns
returns c =
    let front =
    then_line
    (then_line c.bytes.ensures (said_line (ap (λ (n : ℕ). number_column n blank) c.region_of.ensures) c.decimal.ensures))
    (said_line (ap (λ (n : ℕ). number_column n blank) c.from.ensures) c.decimal-2.ensures) in
    let place = then_line (then_line front c.column.ensures) c.column-2.ensures in
    let energy = then_line (then_line (then_line place c.column-3.ensures) c.column-4.ensures) c.column-5.ensures in
    let state = then_line (then_line (then_line energy c.column-6.ensures) c.column-7.ensures) c.column-8.ensures in
    reads_line (then_line state c.bracket.ensures) (of_columns _ _ _ _)
