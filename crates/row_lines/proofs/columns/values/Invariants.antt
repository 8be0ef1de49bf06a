-- `row_lines::columns::values` meets its contract: a loop of eight columns, and the ninth. Assumes nothing.
use Rattle.text.specs.Texts.{joined, blank}
use Rattle.text.specs.Lines.{Writes}
use Rattle.row_lines.specs.Lines.{value_column}
use Rattle.row_lines.proofs.columns.values.Given as goal

abbrev pub invariant-loop-k : goal.invariant-loop-k
invariant-loop-k l = Writes l.initial.line (joined (value_column l.values blank) l.k) l.line
