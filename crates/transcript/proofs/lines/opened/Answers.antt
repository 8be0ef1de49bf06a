-- `transcript::lines::opened` meets its contract: a number and words, one behind the other. Assumes nothing.
use Rattle.text.proofs.Lines.{then_line}
use Rattle.transcript.proofs.lines.opened.Goals as goal

pub returns : goal.returns
returns c = then_line c.decimal.ensures c.bytes.ensures
