-- `call_lines::bracket` meets its contract: a number and two columns, one behind the other. Assumes nothing.
use Rattle.text.proofs.Lines.{then_line}
use Rattle.call_lines.proofs.bracket.Goals as goal

pub returns : goal.returns
returns c = then_line (then_line c.decimal.ensures c.column.ensures) c.column-2.ensures
