-- `listing::listings::listed` meets its contract: the refusal's line, or header and lines one behind the other. Assumes nothing.
use Prim.Native.Nat.{ℕ}
use mathlib.Core.Path.{◌≡◌, sym, ap, ◌∙◌}
use mathlib.Core.List.{List, ◌++◌}
use Rattle.std.proofs.Common.{Result, Ok}
use Rattle.refusals.specs.Refusals.{number_in}
use Rattle.refusals.specs.declared.Refusal.{Refusal}
use Rattle.sheet.specs.Read.{count_of, start_of}
use Rattle.sheet.specs.declared.reader.Rows.{Rows}
use Rattle.text.specs.Texts.{joined}
use Rattle.text.proofs.Lines.{then_line, said_line}
use Rattle.row_lines.specs.Lines.{refused_line}
use Rattle.listing.specs.declared.Listing.{Listing}
use Rattle.listing.specs.Listings.{header_of, line_at, listed_of}
use Rattle.listing.proofs.listings.listed.Goals as goal

-- header and lines, by what the reader says of its rows
rows_listed : (listing : Listing) (s : List ℕ) {r q : Result Rows Refusal} {rows : Rows} {start n : ℕ} → r ≡ Ok rows → r ≡ q → start ≡ start_of r → n ≡ count_of r
    → header_of listing ++ joined (line_at listing s start) n ≡ listed_of listing s q
unfolding listed_of
rows_listed listing s {rows = rows} {start} {n} e f g h =
    ap (λ (x : ℕ). header_of listing ++ joined (line_at listing s x) n) (g ∙ ap start_of e)
    ∙ ap (λ (x : ℕ). header_of listing ++ joined (line_at listing s rows.start) x) (h ∙ ap count_of e)
    ∙ ap (listed_of listing s) (sym e ∙ f)

pub returns-in-Ok : goal.returns-in-Ok
returns-in-Ok c =
    let a = c.args in
    said_line (rows_listed a.listing a.sheet.now (c.in-Ok.is) c.opened-reading.ensures c.start.ensures c.count.ensures) (then_line c.header.ensures c.lines.ensures)

pub returns-in-Err : goal.returns-in-Err
unfolding listed_of
returns-in-Err c =
    let a = c.args in
    said_line (ap refused_line (c.refused_by.ensures ∙ ap number_in c.in-Err.is) ∙ ap (listed_of a.listing a.sheet.now) (sym c.in-Err.is ∙ c.opened-reading.ensures)) c.refused.ensures
