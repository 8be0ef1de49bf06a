-- `listing::lines::lines` meets its contract. The invariant: the lines of the first k rows are written.
-- Assumes nothing.
use Rattle.text.specs.Lines.{Writes}
use Rattle.text.specs.Texts.{joined}
use Rattle.listing.specs.Listings.{line_at}
use Rattle.listing.proofs.lines.lines.Given as goal

abbrev pub invariant-loop-k : goal.invariant-loop-k
invariant-loop-k l = Writes l.initial.line (joined (line_at l.listing l.sheet l.start) l.k) l.line
