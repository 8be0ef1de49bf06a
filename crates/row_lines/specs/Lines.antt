-- The lines of the sheet programs, as bytes of ASCII: columns with a blank between them, and a newline at the end. Definitions only.
use Rattle.std.specs.Prelude.{ℕ, ◌+◌, ◌*◌, ◌/◌, Bool, true, false, cond, List, [], ◌∷◌, ◌++◌, eqb, length, get_or, Float, Option, None, Result}
use Rattle.arith.specs.Bits.{float_of}
use Rattle.text.specs.Texts.{column_of, blank, newline, number_column, joined}
use Rattle.sheet.specs.declared.rows.Point.{Point}
use Rattle.refusals.specs.Refusals.{number_of, number_by, number_in}
use Rattle.refusals.specs.declared.Refusal.{Refusal}
use Rattle.reply.specs.Answers.{region_of, mark_of, values_of}
use Rattle.slopes.specs.Answers.{value_of}
use Rattle.sums.specs.Queries.{answer_of}
use Rattle.sums.specs.Quotients.{quotient_of}
use Rattle.reply.specs.declared.Answer.{Answer}

-- `refused N`, all that is said of a refused sheet
unfoldable pub refused_line : ℕ → List ℕ
refused_line n = (114 ∷ 101 ∷ 102 ∷ 117 ∷ 115 ∷ 101 ∷ 100 ∷ 32 ∷ []) ++ number_column n newline

-- ---- regions and answers

-- the query of a row
abbrev pub asked_of : Point → Result Answer Refusal
asked_of row = answer_of row.kind (float_of row.first) (float_of row.second)

-- the row's number, its kind, the refusal by its number, and the region
unfoldable pub verdict_of : {E : Type 0} → (E → ℕ) → ℕ → ℕ → Result Answer E → ℕ → List ℕ
verdict_of numbered number kind a end = number_column number blank ++ number_column kind blank ++ number_column (number_by numbered a) blank ++ number_column (region_of a) end

abbrev pub region_line : ℕ → Point → List ℕ
region_line number row = verdict_of number_of number row.kind (asked_of row) newline

-- the mark of a state: `1` verified, `0` not; `-` for a refusal, which has no region
abbrev pub digit_of : Bool → ℕ
digit_of true = 49
digit_of false = 48

abbrev pub mark_byte : Result Answer Refusal → ℕ
mark_byte a = cond (eqb (region_of a) 0) 45 (digit_of (mark_of a))

-- one of the nine values p, T, v, u, h, s, cp, w, x
abbrev pub value_column : List (Option Float) → ℕ → ℕ → List ℕ
value_column values end i = column_of (get_or values i None) ++ end ∷ []

unfoldable pub value_columns : List (Option Float) → List ℕ
value_columns values = joined (value_column values blank) 8 ++ value_column values newline 8

unfoldable pub answer_line : ℕ → Point → List ℕ
answer_line number row = let a = asked_of row in verdict_of number_of number row.kind a blank ++ (mark_byte a ∷ blank ∷ []) ++ value_columns (values_of a)

-- ---- quotients

-- the row's number, the properties z, x, y, the refusal and the value
unfoldable pub quotient_line : ℕ → Point → ℕ → ℕ → ℕ → List ℕ
quotient_line number row z x y =
    let q = quotient_of row.kind (float_of row.first) (float_of row.second) z x y in
    number_column number blank ++ number_column z blank ++ number_column x blank ++ number_column y blank ++ number_column (number_in q) blank
    ++ (column_of (value_of q) ++ newline ∷ [])

-- the line of the note's triple i
abbrev pub triple_line : ℕ → Point → List ℕ → ℕ → List ℕ
triple_line number row note i = quotient_line number row (get_or note (3 * i) 0) (get_or note (3 * i + 1) 0) (get_or note (3 * i + 2) 0)

-- a line for each triple of the note in turn
unfoldable pub quotient_lines : ℕ → Point → List ℕ → List ℕ
quotient_lines number row note = joined (triple_line number row note) (length note / 3)
