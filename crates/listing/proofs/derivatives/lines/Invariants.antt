-- `listing::derivatives::lines` meets its contract. The invariant: the lines of the first k triples are written.
-- Assumes nothing.
use Rattle.text.specs.Lines.{Writes}
use Rattle.text.specs.Texts.{joined}
use Rattle.row_lines.specs.Lines.{triple_line}
use Rattle.listing.proofs.derivatives.lines.Given as goal

abbrev pub invariant-loop-k : goal.invariant-loop-k
invariant-loop-k l = Writes l.initial.line (joined (triple_line l.number l.row l.note) l.k) l.line
