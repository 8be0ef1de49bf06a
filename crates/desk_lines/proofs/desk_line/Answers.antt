-- `desk_lines::desk_line` meets its contract: number, words, pointer, words and counts, one behind the other. Assumes nothing.
use Rattle.text.proofs.Lines.{then_line}
use Rattle.desk_lines.specs.Lines.{desk_line}
use Rattle.desk_lines.proofs.desk_line.Goals as goal

pub returns : goal.returns
unfolding desk_line
returns c =
    let pointer = then_line (then_line c.decimal.ensures c.bytes.ensures) c.decimal-2.ensures in
    then_line (then_line pointer c.bytes-2.ensures) c.counts.ensures
