-- `desk_lines::shown` meets its contract: the desk's line, and a loop over the rows. Assumes nothing.
use Rattle.text.specs.Lines.{Writes}
use Rattle.text.specs.Texts.{joined}
use Rattle.ledger.specs.Rows.{row}
use Rattle.desk_lines.specs.Lines.{row_line}
use Rattle.desk_lines.proofs.shown.Given as goal

abbrev pub invariant-loop-i : goal.invariant-loop-i
invariant-loop-i l = Writes l.initial.line (joined (λ k. row_line k (row l.fn.d k)) l.i) l.line
