-- The texts of the sheet programs `regions`, `answers` and `quotients`. Definitions only.
use Rattle.std.specs.Prelude.{ℕ, ◌+◌, ◌%◌, cond, List, [], ◌∷◌, ◌++◌, length, take, ltb, eqb, Result, Ok, Err}
use Rattle.refusals.specs.Refusals.{number_of}
use Rattle.refusals.specs.declared.Refusal.{Refusal}
use Rattle.sheet.specs.Read.{read_of}
use Rattle.sheet.specs.Rows.{row_of}
use Rattle.sheet.specs.declared.reader.Rows.{Rows}
use Rattle.sheet.specs.declared.rows.Point.{Point}
use Rattle.listing.specs.declared.Listing.{Listing}
use Rattle.listing.specs.declared.Listing.TheVariants.{Regions, Answers}
use Rattle.text.specs.Texts.{joined, newline}
use Rattle.row_lines.specs.Lines.{refused_line, region_line, answer_line, quotient_lines}

-- the longest sheet: a note of 4,096 bytes, 1,000 rows and the trailer
abbrev pub longest : ℕ
longest = 28112

-- what comes in is read as a sheet, unless it is longer than any
unfoldable pub opened_of : List ℕ → Result Rows Refusal
opened_of s = cond (ltb longest (length s)) (Err Refusal.Layout) (read_of s)

-- ---- regions and answers

-- `row kind answer region`, and for answers then `mark p T v u h s cp w x`
unfoldable pub header_of : Listing → List ℕ
header_of Regions = 114 ∷ 111 ∷ 119 ∷ 32 ∷ 107 ∷ 105 ∷ 110 ∷ 100 ∷ 32 ∷ 97 ∷ 110 ∷ 115 ∷ 119 ∷ 101 ∷ 114 ∷ 32 ∷ 114 ∷ 101 ∷ 103 ∷ 105 ∷ 111 ∷ 110 ∷ newline ∷ []
header_of Answers =
    114 ∷ 111 ∷ 119 ∷ 32 ∷ 107 ∷ 105 ∷ 110 ∷ 100 ∷ 32 ∷ 97 ∷ 110 ∷ 115 ∷ 119 ∷ 101 ∷ 114 ∷ 32 ∷ 114 ∷ 101 ∷ 103 ∷ 105 ∷ 111 ∷ 110
    ∷ 32 ∷ 109 ∷ 97 ∷ 114 ∷ 107 ∷ 32 ∷ 112 ∷ 32 ∷ 84 ∷ 32 ∷ 118 ∷ 32 ∷ 117 ∷ 32 ∷ 104 ∷ 32 ∷ 115 ∷ 32 ∷ 99 ∷ 112 ∷ 32 ∷ 119 ∷ 32 ∷ 120 ∷ newline ∷ []

unfoldable pub row_line : Listing → ℕ → Point → List ℕ
row_line Regions number row = region_line number row
row_line Answers number row = answer_line number row

-- row k's line, numbered from 1
abbrev pub line_at : Listing → List ℕ → ℕ → ℕ → List ℕ
line_at listing s start k = row_line listing (k + 1) (row_of s start k)

-- the header and a line a row; of a refused sheet only its number
unfoldable pub listed_of : Listing → List ℕ → Result Rows Refusal → List ℕ
listed_of listing s (Ok rows) = header_of listing ++ joined (line_at listing s rows.start) rows.count
listed_of listing s (Err refusal) = refused_line (number_of refusal)

abbrev pub regions_text : List ℕ → List ℕ
regions_text s = listed_of Regions s (opened_of s)

abbrev pub answers_text : List ℕ → List ℕ
answers_text s = listed_of Answers s (opened_of s)

-- ---- quotients

-- the note must be triples
unfoldable pub in_triples : Result Rows Refusal → Result Rows Refusal
in_triples (Err refusal) = Err refusal
in_triples (Ok rows) = cond (eqb (rows.start % 3) 0) (Ok rows) (Err Refusal.Layout)

abbrev pub triples_of : List ℕ → Result Rows Refusal
triples_of s = in_triples (opened_of s)

-- `row z x y answer value`, or what is said of a refused sheet
unfoldable pub quotients_head : {E : Type 0} → (E → ℕ) → Result Rows E → List ℕ
quotients_head numbered (Err refusal) = refused_line (numbered refusal)
quotients_head numbered (Ok rows) = 114 ∷ 111 ∷ 119 ∷ 32 ∷ 122 ∷ 32 ∷ 120 ∷ 32 ∷ 121 ∷ 32 ∷ 97 ∷ 110 ∷ 115 ∷ 119 ∷ 101 ∷ 114 ∷ 32 ∷ 118 ∷ 97 ∷ 108 ∷ 117 ∷ 101 ∷ newline ∷ []

-- row k's lines, one for each triple of the note; none where there is no such row
unfoldable pub quotients_row : {E : Type 0} → List ℕ → Result Rows E → ℕ → List ℕ
quotients_row s (Err refusal) k = []
quotients_row s (Ok rows) k = cond (ltb k rows.count) (quotient_lines (k + 1) (row_of s rows.start k) (take rows.start s)) []
