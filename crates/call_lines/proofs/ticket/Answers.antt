-- `call_lines::ticket` meets its contract: a zero and a number, one behind the other. Assumes nothing.
use Rattle.text.proofs.Lines.{then_line}
use Rattle.call_lines.proofs.ticket.Goals as goal

pub returns : goal.returns
returns c = then_line c.bytes.ensures c.decimal.ensures
