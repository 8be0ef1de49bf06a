-- `listing::derivatives::quotients` meets its contract: nothing for a refused sheet or where there is no such row, and else the row's lines.
-- Assumes nothing.
use Prim.Native.Nat.{ℕ, ◌+◌}
use mathlib.Core.Path.{◌≡◌, sym, ap, ◌∙◌}
use mathlib.Core.Bool.{Bool, true, false, cond}
use mathlib.Core.List.{List, []}
use lib.Dec.{ltb}
use lib.ListN.{take}
use borrow.Author.Tests.{lt-ltb, le-ltb}
use Rattle.std.proofs.Common.{Result, Ok, rules}
use Rattle.text.proofs.Pieces.{none, said}
use Rattle.text.proofs.Lines.{said_line, lent}
use Rattle.sheet.specs.Rows.{row_of}
use Rattle.sheet.specs.declared.reader.Rows.{Rows}
use Rattle.sheet.specs.declared.rows.Point.{Point}
use Rattle.row_lines.specs.Lines.{quotient_lines}
use Rattle.listing.specs.Listings.{quotients_row}
use Rattle.listing.proofs.derivatives.quotients.Goals as goal

-- and whether there is such a row
shown : {E : Type 0} (s : List ℕ) (r : Result Rows E) (rows : Rows) (k : ℕ) (b : Bool) → r ≡ Ok rows → ltb k rows.count ≡ b
    → cond b (quotient_lines (k + 1) (row_of s rows.start k) (take rows.start s)) [] ≡ quotients_row s r k
unfolding quotients_row
shown {E} s r rows k b e q =
    ap (λ (t : Bool). cond t (quotient_lines (k + 1) (row_of s rows.start k) (take rows.start s)) []) (sym q)
    ∙ ap (λ (x : Result Rows E). quotients_row s x k) (sym e)

pub returns-in-Err : goal.returns-in-Err
unfolding quotients_row
returns-in-Err g c =
    let a = c.args in
    said (ap (λ (x : Result Rows _). quotients_row a.sheet.now x a.k) (sym c.in-Err.is)) (none _ _)

pub returns-then-k-rows : goal.returns-then-k-rows
returns-then-k-rows g c =
    let a = c.args in
    lent (search rules) c.end.ensures c.new-line.ensures.start
    (said_line
    (ap (λ (x : Point). quotient_lines (a.k + 1) x c.note.result.now) c.row-row.ensures
    ∙ ap (quotient_lines (a.k + 1) _) c.note.ensures
    ∙ shown _ _ _ _ true c.in-Ok.is (lt-ltb _ _ c.if-k-rows.true))
    c.lines.ensures)

pub returns-else-k-rows : goal.returns-else-k-rows
returns-else-k-rows g c = said (shown _ _ _ _ false c.in-Ok.is (le-ltb _ _ c.if-k-rows.false)) (none _ _)
