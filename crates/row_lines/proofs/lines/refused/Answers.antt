-- `row_lines::lines::refused` meets its contract: a word and a number, one behind the other. Assumes nothing.
use Rattle.text.proofs.Lines.{then_line}
use Rattle.row_lines.specs.Lines.{refused_line}
use Rattle.row_lines.proofs.lines.refused.Goals as goal

pub returns : goal.returns
unfolding refused_line
returns c =
    then_line c.bytes.ensures c.decimal.ensures
