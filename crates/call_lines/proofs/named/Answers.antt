-- `call_lines::named` meets its contract, case by case. Assumes nothing.
use mathlib.Core.Path.{sym, ap}
use mathlib.Core.List.{[], ◌∷◌, ◌++◌}
use Rattle.text.specs.Texts.{blank, number_column}
use Rattle.text.proofs.Lines.{said_line}
use Rattle.records.specs.declared.Call.{Call}
use Rattle.call_lines.specs.Lines.{name_of}
use Rattle.call_lines.proofs.named.Goals as goal

pub returns-in-Post : goal.returns-in-Post
unfolding name_of
returns-in-Post c =
    said_line (ap (λ (call : Call). number_column c.args.number blank ++ (name_of call ++ blank ∷ [])) (sym c.in-Post.is))
    c.numbered.ensures

pub returns-in-Peek : goal.returns-in-Peek
unfolding name_of
returns-in-Peek c =
    said_line (ap (λ (call : Call). number_column c.args.number blank ++ (name_of call ++ blank ∷ [])) (sym c.in-Peek.is))
    c.numbered-in-Peek.ensures

pub returns-in-Collect : goal.returns-in-Collect
unfolding name_of
returns-in-Collect c =
    said_line (ap (λ (call : Call). number_column c.args.number blank ++ (name_of call ++ blank ∷ [])) (sym c.in-Collect.is))
    c.numbered-in-Collect.ensures

pub returns-in-Withdraw : goal.returns-in-Withdraw
unfolding name_of
returns-in-Withdraw c =
    said_line (ap (λ (call : Call). number_column c.args.number blank ++ (name_of call ++ blank ∷ [])) (sym c.in-Withdraw.is))
    c.numbered-in-Withdraw.ensures
