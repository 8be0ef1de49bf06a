-- `row_lines::columns::values` meets its contract: a loop of eight columns, and the ninth. Assumes nothing.
use mathlib.Core.List.{[], ◌∷◌, ◌++◌}
use Rattle.text.specs.Texts.{column_of, blank, newline}
use Rattle.std.proofs.Common.{Float, Option, None}
use Rattle.row_lines.proofs.NineValues.{value_at}
use Prim.Native.Nat.{ℕ}
use mathlib.Core.Path.{◌≡◌, ap}
use native.Mathlib.Omega.{arith}
use Rattle.row_lines.specs.Lines.{value_column, value_columns}
use Rattle.text.proofs.Lines.{then_line, said_line, begun_line, turned_line, ended_line}
use Rattle.row_lines.proofs.columns.values.Goals as goal

-- the column of a value that is read
written : (end : ℕ) (u v : Option Float) → u ≡ v → column_of u ++ end ∷ [] ≡ column_of v ++ end ∷ []
written end u v e = ap (λ (y : Option Float). column_of y ++ end ∷ []) e

pub loop-k-init : goal.loop-k-init
loop-k-init c = begun_line _ _

pub loop-k-preserved : goal.loop-k-preserved
loop-k-preserved c =
    let values = c.values-values in
    let k = c.loop-k.k in
    turned_line (value_column values.result blank) k c.loop-k.invariant
    (said_line (written blank _ _ (value_at _ c.args.a k _ None values.ensures (omega arith))) c.column.ensures)

pub returns : goal.returns
unfolding value_columns
returns c =
    let values = c.values-values in
    said_line (ap value_columns values.ensures)
    (then_line (ended_line (value_column values.result blank) c.loop-k.auto.k-end c.loop-k-test.false c.loop-k.invariant)
    (said_line (written newline _ _ (value_at _ c.args.a 8 _ None values.ensures (omega arith))) c.column-2.ensures))
