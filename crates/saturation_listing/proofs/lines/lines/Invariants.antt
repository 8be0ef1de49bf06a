-- `saturation_listing::lines::lines` meets its contract. The invariant: the lines of the first k words are written.
-- Assumes nothing.
use Rattle.text.specs.Lines.{Writes}
use Rattle.text.specs.Texts.{joined}
use Rattle.saturation_listing.specs.Listing.{line_at}
use Rattle.saturation_listing.proofs.lines.lines.Given as goal

abbrev pub invariant-loop-k : goal.invariant-loop-k
invariant-loop-k l = Writes l.initial.line (joined (line_at l.input) l.k) l.line
