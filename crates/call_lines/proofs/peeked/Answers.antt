-- `call_lines::peeked` meets its contract: a zero, and a number with its bracket behind it. Assumes nothing.
use Rattle.text.proofs.Lines.{then_line}
use Rattle.call_lines.proofs.peeked.Goals as goal

pub returns : goal.returns
returns c = then_line c.bytes.ensures c.bracket.ensures
