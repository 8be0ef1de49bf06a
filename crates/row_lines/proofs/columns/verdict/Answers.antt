-- `row_lines::columns::verdict` meets its contract: four columns, one behind the other. Assumes nothing.
use Prim.Native.Nat.{ℕ}
use mathlib.Core.Path.{ap}
use Rattle.text.proofs.Lines.{then_line, said_line}
use Rattle.text.specs.Texts.{blank, number_column}
use Rattle.row_lines.specs.Lines.{verdict_of}
use Rattle.row_lines.proofs.columns.verdict.Goals as goal

pub returns : goal.returns
unfolding verdict_of
returns c =
    let end = c.args.end in
    then_line
    (then_line (then_line c.decimal.ensures c.decimal-2.ensures) (said_line (ap (λ (n : ℕ). number_column n blank) c.refused_by.ensures) c.decimal-3.ensures))
    (said_line (ap (λ (n : ℕ). number_column n end) c.region.ensures) c.decimal-4.ensures)
