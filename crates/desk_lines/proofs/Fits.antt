-- The lines of a desk fit a room of 8,192 bytes. Assumes nothing.
use Prim.Native.Nat.{ℕ, ◌≤◌}
use mathlib.Core.Bool.{Bool, true, false, cond}
use mathlib.Core.List.{List, []}
use native.Mathlib.Omega.{arith}
use lib.ListN.{length, length-append}
use Rattle.text.specs.Texts.{blank, number_column}
use Rattle.std.proofs.Common.{Some}
use Rattle.text.proofs.Lengths.{digits, column_short, joined_short}
use Rattle.ledger.specs.Rows.{row, counted}
use Rattle.ledger.specs.declared.Row.{Row}
use Rattle.ledger.specs.declared.Desk.{Desk}
use Rattle.desk_lines.specs.Lines.{count_columns, desk_line, row_line, shown_lines}

number_short : (n end : ℕ) → length (number_column n end) ≤ 21
number_short n end = simp length-append (omega (arith, digits n))

counts_short : (d : Desk) → length (count_columns d) ≤ 168
unfolding count_columns
counts_short d =
    simp length-append
    (omega (arith, digits (counted d 7), joined_short (λ c. number_column (counted d c) blank) 21 7 (λ c. number_short (counted d c) blank)))

desk_short : (number : ℕ) (d : Desk) → length (desk_line number d) ≤ 225
unfolding desk_line
desk_short number d = simp length-append (omega (arith, digits number, digits d.pointer, counts_short d))

-- nothing is short too
or_nothing : (t : Bool) (l : List ℕ) (n : ℕ) → length l ≤ n → length (cond t l []) ≤ n
or_nothing true l n h = h
or_nothing false l n h = omega arith

row_short : (i : ℕ) (r : Row) → length (row_line i r) ≤ 219
unfolding row_line
row_short i r =
    or_nothing r.filled _ 219
    (simp length-append
    (omega (
      arith,
      digits i,
      digits r.caller,
      digits r.ticket,
      digits r.kind,
      digits r.region,
      column_short (Some r.p),
      column_short (Some r.y),
      digits r.number,
      digits r.halvings,
      column_short (Some r.lo),
      column_short (Some r.hi),
    )))

pub shown_short : (number : ℕ) (d : Desk) → length (shown_lines number d) ≤ 8192
unfolding shown_lines
shown_short number d =
    simp length-append (omega (arith, desk_short number d, joined_short (λ i. row_line i (row d i)) 219 32 (λ i. row_short i (row d i))))
