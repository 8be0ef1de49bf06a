-- `listing::lines::row_line` meets its contract, case by case. Assumes nothing.
use mathlib.Core.Path.{sym, ap}
use Rattle.text.proofs.Lines.{said_line}
use Rattle.listing.specs.Listings.{row_line}
use Rattle.listing.specs.declared.Listing.{Listing}
use Rattle.listing.proofs.lines.row_line.Goals as goal

pub returns-in-Regions : goal.returns-in-Regions
unfolding row_line
returns-in-Regions c =
    let a = c.args in
    said_line (ap (λ (l : Listing). row_line l a.number a.row) (sym c.in-Regions.is)) c.region_line.ensures

pub returns-in-Answers : goal.returns-in-Answers
unfolding row_line
returns-in-Answers c =
    let a = c.args in
    said_line (ap (λ (l : Listing). row_line l a.number a.row) (sym c.in-Answers.is)) c.answer_line.ensures
