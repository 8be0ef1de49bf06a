-- A line is short. Assumes nothing.
use Prim.Native.Nat.{ℕ, ◌≤◌}
use native.Mathlib.Omega.{arith}
use mathlib.Core.List.{List}
use lib.ListN.{length, get_or, length-append}
use Rattle.text.specs.Texts.{joined, blank, newline}
use Rattle.text.proofs.Lengths.{digits, column_short, joined_short}
use Rattle.arith.specs.Bits.{float_of}
use Rattle.std.proofs.Common.{Float, Option, None, Result}
use Rattle.refusals.specs.Refusals.{number_of, number_by, number_in}
use Rattle.reply.specs.Answers.{region_of, values_of}
use Rattle.reply.specs.declared.Answer.{Answer}
use Rattle.slopes.specs.Answers.{value_of}
use Rattle.sums.specs.Quotients.{quotient_of}
use Rattle.sheet.specs.declared.rows.Point.{Point}
use Rattle.row_lines.specs.Lines.{asked_of, verdict_of, value_column, value_columns, answer_line, quotient_line, refused_line}

pub refused_short : (n : ℕ) → length (refused_line n) ≤ 29
unfolding refused_line
refused_short n = simp length-append (omega (arith, digits n))

pub verdict_short : {E : Type 0} (numbered : E → ℕ) (number kind : ℕ) (a : Result Answer E) (end : ℕ) → length (verdict_of numbered number kind a end) ≤ 84
unfolding verdict_of
verdict_short numbered number kind a end =
    simp length-append (omega (arith, digits number, digits kind, digits (number_by numbered a), digits (region_of a)))

value_short : (values : List (Option Float)) (end i : ℕ) → length (value_column values end i) ≤ 17
value_short values end i = simp length-append (omega (arith, column_short (get_or values i None)))

values_short : (values : List (Option Float)) → length (value_columns values) ≤ 153
unfolding value_columns
values_short values =
    omega
    (arith, length-append (joined (value_column values blank) 8) (value_column values newline 8), joined_short (value_column values blank) 17 8 (value_short values blank), value_short values newline 8)

pub answer_short : (number : ℕ) (row : Point) → length (answer_line number row) ≤ 239
unfolding answer_line
answer_short number row =
    let a = asked_of row in
    simp length-append (omega (arith, verdict_short number_of number row.kind a blank, values_short (values_of a)))

pub quotient_short : (number : ℕ) (row : Point) (z x y : ℕ) → length (quotient_line number row z x y) ≤ 122
unfolding quotient_line
quotient_short number row z x y =
    let q = quotient_of row.kind (float_of row.first) (float_of row.second) z x y in
    simp length-append (omega (arith, digits number, digits z, digits x, digits y, digits (number_in q), column_short (value_of q)))
