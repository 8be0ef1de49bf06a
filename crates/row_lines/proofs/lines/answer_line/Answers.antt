-- `row_lines::lines::answer_line` meets its contract: verdict, mark and values on the row's query, one behind the other. Assumes nothing.
use Prim.Native.Nat.{ℕ}
use mathlib.Core.Path.{ap}
use mathlib.Core.List.{[], ◌∷◌, ◌++◌}
use Rattle.text.proofs.Lines.{then_line, said_line}
use Rattle.reply.specs.Answers.{values_of}
use Rattle.reply.specs.declared.Answer.{Answer}
use Rattle.refusals.specs.declared.Refusal.{Refusal}
use Rattle.std.proofs.Common.{Result}
use Rattle.text.specs.Texts.{blank}
use Rattle.refusals.specs.Refusals.{number_of}
use Rattle.row_lines.specs.Lines.{verdict_of, mark_byte, value_columns, answer_line}
use Rattle.row_lines.proofs.lines.answer_line.Goals as goal

pub returns : goal.returns
unfolding answer_line
returns c =
    let a = c.args in
    said_line
    (ap (λ (x : Result Answer Refusal). verdict_of number_of a.number a.row.kind x blank ++ (mark_byte x ∷ blank ∷ []) ++ value_columns (values_of x)) c.asked-a.ensures)
    (then_line (then_line c.verdict.ensures (said_line (ap (λ (m : ℕ). m ∷ blank ∷ []) c.mark.ensures) c.bytes.ensures)) c.values.ensures)
