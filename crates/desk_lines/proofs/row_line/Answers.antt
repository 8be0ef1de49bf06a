-- `desk_lines::row_line` meets its contract: nothing for an empty row, else twelve pieces, one behind the other. Assumes nothing.
use mathlib.Core.Path.{◌≡◌}
use mathlib.Core.Bool.{true, false, not}
use mathlib.Core.List.{List, [], ◌∷◌, ◌++◌}
use borrow.Author.Tests.{not-true, not-false}
use Rattle.text.specs.Texts.{blank, newline, number_column, float_column}
use Rattle.ledger.specs.declared.Row.{Row}
use Prim.Native.Nat.{ℕ}
use Rattle.text.proofs.Lines.{nothing_line, then_line, said_line}
use Rattle.desk_lines.specs.Lines.{row_line}
use Rattle.desk_lines.proofs.row_line.Goals as goal

-- the columns of a row that is filled
abbrev columns : ℕ → Row → List ℕ
columns i r =
    (114 ∷ 111 ∷ 119 ∷ blank ∷ [])
    ++ number_column i blank
    ++ number_column r.caller blank
    ++ number_column r.ticket blank
    ++ number_column r.kind blank
    ++ number_column r.region blank
    ++ float_column r.p blank
    ++ float_column r.y blank
    ++ number_column r.number blank
    ++ number_column r.halvings blank
    ++ float_column r.lo blank
    ++ float_column r.hi newline

-- a row that is not filled, and one that is
empty : (i : ℕ) (r : Row) → not r.filled ≡ true → [] ≡ row_line i r
unfolding row_line
empty i r e = simp (not-true r.filled e)

full : (i : ℕ) (r : Row) → not r.filled ≡ false → columns i r ≡ row_line i r
unfolding row_line
full i r e = simp (not-false r.filled e)

pub returns-then-not-r : goal.returns-then-not-r
unfolding row_line
returns-then-not-r c = let a = c.args in said_line (empty a.i a.r c.if-not-r.true) nothing_line

pub returns : goal.returns
unfolding row_line
returns c =
    let a = c.args in
    let holder = then_line (then_line (then_line c.bytes.ensures c.decimal.ensures) c.decimal-2.ensures) c.decimal-3.ensures in
    let query = then_line (then_line (then_line (then_line holder c.decimal-4.ensures) c.decimal-5.ensures) c.column.ensures) c.column-2.ensures in
    said_line (full a.i a.r c.if-not-r.false)
    (then_line (then_line (then_line (then_line query c.decimal-6.ensures) c.decimal-7.ensures) c.column-3.ensures) c.column-4.ensures)
