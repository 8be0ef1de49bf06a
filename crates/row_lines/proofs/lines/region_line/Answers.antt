-- `row_lines::lines::region_line` meets its contract: the verdict on the row's query. Assumes nothing.
use mathlib.Core.Path.{ap}
use Rattle.text.proofs.Lines.{said_line}
use Rattle.reply.specs.declared.Answer.{Answer}
use Rattle.refusals.specs.declared.Refusal.{Refusal}
use Rattle.std.proofs.Common.{Result}
use Rattle.text.specs.Texts.{newline}
use Rattle.refusals.specs.Refusals.{number_of}
use Rattle.row_lines.specs.Lines.{verdict_of}
use Rattle.row_lines.proofs.lines.region_line.Goals as goal

pub returns : goal.returns
returns c =
    let a = c.args in
    said_line (ap (λ (x : Result Answer Refusal). verdict_of number_of a.number a.row.kind x newline) c.asked.ensures) c.verdict.ensures
