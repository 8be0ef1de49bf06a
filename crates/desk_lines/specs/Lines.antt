-- The lines of a desk, as bytes of ASCII: columns with a blank between them, and a newline at the end. Definitions only.
use Rattle.std.specs.Prelude.{ℕ, cond, List, [], ◌∷◌, ◌++◌}
use Rattle.text.specs.Texts.{blank, newline, number_column, float_column, joined}
use Rattle.ledger.specs.Rows.{row, counted}
use Rattle.ledger.specs.declared.Row.{Row}
use Rattle.ledger.specs.declared.Desk.{Desk}

-- the counts of callers 0 to 7
unfoldable pub count_columns : Desk → List ℕ
count_columns d = joined (λ c. number_column (counted d c) blank) 7 ++ number_column (counted d 7) newline

-- `N pointer P counts C0 .. C7`
unfoldable pub desk_line : ℕ → Desk → List ℕ
desk_line number d =
    (number_column number blank ++ 112 ∷ 111 ∷ 105 ∷ 110 ∷ 116 ∷ 101 ∷ 114 ∷ blank ∷ [])
    ++ number_column d.pointer blank
    ++ (99 ∷ 111 ∷ 117 ∷ 110 ∷ 116 ∷ 115 ∷ blank ∷ [])
    ++ count_columns d

-- `row I CALLER TICKET KIND REGION P Y NUMBER HALVINGS LO HI`, and nothing for an empty row
unfoldable pub row_line : ℕ → Row → List ℕ
row_line i r =
    cond r.filled
    ((114 ∷ 111 ∷ 119 ∷ blank ∷ [])
    ++ number_column i blank
    ++ number_column r.caller blank
    ++ number_column r.ticket blank
    ++ number_column r.kind blank
    ++ number_column r.region blank
    ++ float_column r.p blank
    ++ float_column r.y blank
    ++ number_column r.number blank
    ++ number_column r.halvings blank
    ++ float_column r.lo blank
    ++ float_column r.hi newline)
    []

unfoldable pub shown_lines : ℕ → Desk → List ℕ
shown_lines number d = desk_line number d ++ joined (λ i. row_line i (row d i)) 32
