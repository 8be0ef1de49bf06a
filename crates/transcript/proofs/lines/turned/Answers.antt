-- `transcript::lines::turned` meets its contract: the words and three numbers, one behind the other. Assumes nothing.
use Rattle.text.proofs.Lines.{then_line}
use Rattle.transcript.specs.Lines.{turns_line}
use Rattle.transcript.proofs.lines.turned.Goals as goal

pub returns : goal.returns
unfolding turns_line
returns c =
    then_line (then_line (then_line c.opened.ensures c.decimal.ensures) c.decimal-2.ensures) c.decimal-3.ensures
