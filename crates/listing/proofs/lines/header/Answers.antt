-- `listing::lines::header` meets its contract, case by case. Assumes nothing.
use mathlib.Core.Path.{sym, ap}
use Rattle.text.proofs.Lines.{said_line}
use Rattle.listing.specs.Listings.{header_of}
use Rattle.listing.proofs.lines.header.Goals as goal

pub returns-in-Regions : goal.returns-in-Regions
unfolding header_of
returns-in-Regions c =
    said_line (ap header_of (sym c.in-Regions.is)) c.bytes.ensures

pub returns-in-Answers : goal.returns-in-Answers
unfolding header_of
returns-in-Answers c =
    said_line (ap header_of (sym c.in-Answers.is)) c.bytes-in-Answers.ensures
