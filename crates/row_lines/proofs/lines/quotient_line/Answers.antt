-- `row_lines::lines::quotient_line` meets its contract: six columns, one behind the other. Assumes nothing.
use Prim.Native.Nat.{ℕ}
use mathlib.Core.Path.{◌≡◌, ap}
use mathlib.Core.List.{List, [], ◌∷◌, ◌++◌}
use lib.Ieee.{Float}
use Rattle.text.specs.Texts.{column_of, blank, newline, number_column}
use Rattle.text.proofs.Lines.{then_line, said_line}
use Rattle.slopes.specs.Answers.{value_of}
use Rattle.sums.specs.Quotients.{quotient_of}
use Rattle.refusals.specs.Refusals.{number_in}
use Rattle.refusals.specs.declared.Refusal.{Refusal}
use Rattle.std.proofs.Common.{Option, Result}
use Rattle.row_lines.specs.Lines.{quotient_line}
use Rattle.row_lines.proofs.lines.quotient_line.Goals as goal

-- the line of a derivative
abbrev columns : ℕ → ℕ → ℕ → ℕ → Result Float Refusal → List ℕ
columns number z x y q =
    number_column number blank ++ number_column z blank ++ number_column x blank ++ number_column y blank ++ number_column (number_in q) blank
    ++ (column_of (value_of q) ++ newline ∷ [])

-- the derivative at the values that bits stand for
at_bits : (kind z x y : ℕ) {q : Result Float Refusal} {c c' d d' : Float} → q ≡ quotient_of kind c d z x y → c ≡ c' → d ≡ d' → q ≡ quotient_of kind c' d' z x y
at_bits kind z x y e f g = cc

pub returns : goal.returns
unfolding quotient_line
returns c =
    let a = c.args in
    said_line
    (ap (columns a.number a.z a.x a.y) (at_bits a.row.kind a.z a.x a.y c.quotient-q.ensures c.float_of-c.ensures c.float_of-d.ensures))
    (then_line
    (then_line
    (then_line (then_line (then_line c.decimal.ensures c.decimal-2.ensures) c.decimal-3.ensures) c.decimal-4.ensures)
    (said_line (ap (λ (n : ℕ). number_column n blank) c.refused_by.ensures) c.decimal-5.ensures))
    (said_line (ap (λ (x : Option Float). column_of x ++ newline ∷ []) c.value.ensures) c.column.ensures))
