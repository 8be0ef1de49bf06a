-- `call_lines::told` meets its contract: number and name, and what was answered. Assumes nothing.
use Rattle.std.proofs.Common.{rules}
use Rattle.text.proofs.Pieces.{reads}
use Rattle.text.proofs.Lines.{then_line, lent}
use Rattle.call_lines.proofs.Pieces.{of_call}
use Rattle.call_lines.proofs.told.Goals as goal

pub returns : goal.returns
returns g c =
    reads (lent (search rules) c.end.ensures c.new-line.ensures.start (then_line c.named.ensures c.answered.ensures)) (of_call _ _ _ _)
