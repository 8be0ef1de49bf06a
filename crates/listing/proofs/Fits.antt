-- Every text fits the room that its program lends, so that none is cut: a sheet that reads has at most 1,000 rows, for which the rooms have more than space
-- enough, and its note at most 4,096 bytes. Assumes nothing.
use Prim.Native.Nat.{ℕ, ◌+◌, ◌*◌, ◌/◌, ◌%◌, ◌≤◌}
use native.Mathlib.Omega.{arith}
use mathlib.Core.Path.{◌≡◌, refl}
use mathlib.Core.Bool.{Bool, true, false, cond}
use mathlib.Core.List.{List, []}
use lib.Dec.{ltb, eqb}
use lib.ListN.{length, take, get_or, length-append, length-take}
use Rattle.text.specs.Texts.{newline}
use Rattle.text.proofs.Lengths.{joined_short}
use Rattle.sheet.specs.declared.rows.Point.{Point}
use Rattle.sheet.specs.Read.{read_of}
use Rattle.sheet.specs.Rows.{row_of}
use Rattle.std.proofs.Common.{Result, Ok, Err}
use Rattle.refusals.specs.Refusals.{number_of}
use Rattle.refusals.specs.declared.Refusal.{Refusal}
use Rattle.sheet.specs.declared.reader.Rows.{Rows}
use Rattle.sheet.proofs.ReadLaws.{trailer_rows, read_inv, read_fits}
use Rattle.row_lines.specs.Lines.{asked_of, triple_line, quotient_lines}
use Rattle.row_lines.proofs.Fits.{refused_short, verdict_short, answer_short, quotient_short}
use Rattle.listing.specs.Listings.{longest, opened_of, header_of, row_line, line_at, listed_of, regions_text, answers_text, in_triples, triples_of, quotients_head, quotients_row}
use Rattle.listing.specs.declared.Listing.{Listing}
use Rattle.listing.specs.declared.Listing.TheVariants.{Regions, Answers}

-- ---- lines

row_short : (listing : Listing) (number : ℕ) (row : Point) → length (row_line listing number row) ≤ 239
unfolding row_line
row_short Regions number row = omega (arith, verdict_short number_of number row.kind (asked_of row) newline)
row_short Answers number row = answer_short number row

-- ---- texts

opened_few : (s : List ℕ) (rows : Rows) → opened_of s ≡ Ok rows → (rows.count ≤ 2500) × (rows.start ≤ 4096)
unfolding opened_of
opened_few s rows e = go (ltb longest (length s)) e
  where
    go : (t : Bool) → cond t (Err Refusal.Layout) (read_of s) ≡ Ok rows → (rows.count ≤ 2500) × (rows.start ≤ 4096)
    go true h = absurd cc
    go false h = ((read_fits s rows.count rows.start h).1, (trailer_rows s rows.count rows.start (read_inv s rows.count rows.start h).0).1.1.short_note)

listed_short : (listing : Listing) (s : List ℕ) → length (listed_of listing s (opened_of s)) ≤ 600000
unfolding listed_of header_of
listed_short listing s = go listing (opened_of s) refl
  where
    head : (l : Listing) → length (header_of l) ≤ 47
    head Regions = omega arith
    head Answers = omega arith

    go : (l : Listing) (r : Result Rows Refusal) → opened_of s ≡ r → length (listed_of l s r) ≤ 600000
    go l (Err refusal) e = omega (arith, refused_short (number_of refusal))
    go l (Ok rows) e =
        simp length-append
        (omega (arith, opened_few s rows e, head l, joined_short (line_at l s rows.start) 239 rows.count (λ k. row_short l (k + 1) (row_of s rows.start k))))

-- what `regions` and `answers` lend
pub regions_fits : (s : List ℕ) → length (regions_text s) ≤ 600000
regions_fits s = listed_short Regions s

pub answers_fits : (s : List ℕ) → length (answers_text s) ≤ 600000
answers_fits s = listed_short Answers s

-- a note is so many triples at most, and a row has a line for each
lines_short : (number : ℕ) (row : Point) (note : List ℕ) → length note ≤ 4096 → length (quotient_lines number row note) ≤ 262144
unfolding quotient_lines
lines_short number row note h =
    omega (arith, joined_short (triple_line number row note) 122 (length note / 3) (λ i. quotient_short number row (get_or note (3 * i) 0) (get_or note (3 * i + 1) 0) (get_or note (3 * i + 2) 0)))

-- what `quotients` lends
pub quotients_head_fits : {E : Type 0} (numbered : E → ℕ) (r : Result Rows E) → length (quotients_head numbered r) ≤ 262144
unfolding quotients_head
quotients_head_fits numbered (Err refusal) = omega (arith, refused_short (numbered refusal))
quotients_head_fits numbered (Ok rows) = omega arith

pub quotients_fits : (s : List ℕ) (k : ℕ) → length (quotients_row s (triples_of s) k) ≤ 262144
unfolding quotients_row in_triples
quotients_fits s k = go (opened_of s) refl
  where
    row : (rows : Rows) (b : Bool) → rows.start ≤ 4096 → length (quotients_row s (cond b (Ok rows) (Err Refusal.Layout)) k) ≤ 262144
    row rows false h = omega arith
    row rows true h = here (ltb k rows.count)
      where
        here : (t : Bool) → length (cond t (quotient_lines (k + 1) (row_of s rows.start k) (take rows.start s)) []) ≤ 262144
        here true = lines_short (k + 1) (row_of s rows.start k) (take rows.start s) (omega (arith, length-take rows.start s))
        here false = omega arith

    go : (r : Result Rows Refusal) → opened_of s ≡ r → length (quotients_row s (in_triples r) k) ≤ 262144
    go (Err refusal) e = omega arith
    go (Ok rows) e = row rows (eqb (rows.start % 3) 0) (opened_few s rows e).1
