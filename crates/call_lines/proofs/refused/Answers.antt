-- `call_lines::refused` meets its contract, case by case. Assumes nothing.
use Prim.Native.Nat.{ℕ}
use mathlib.Core.Path.{sym, ap, ◌∙◌}
use mathlib.Core.List.{List, [], ◌∷◌, ◌++◌, append_assoc}
use lib.ListN.{replicate}
use Rattle.text.specs.Texts.{decimal_of, blank}
use Rattle.text.proofs.Lines.{said_line}
use Rattle.records.specs.declared.Call.{Call}
use Rattle.call_lines.specs.Lines.{width_of, line_of}
use Rattle.call_lines.proofs.refused.Goals as goal

-- what is told of a refused call
abbrev refusal : ℕ → Call → List ℕ
refusal n call = decimal_of n ++ line_of (replicate (width_of call) (45 ∷ []))

pub returns-in-Post : goal.returns-in-Post
unfolding width_of line_of
returns-in-Post c =
    let n = c.args.n in
    said_line (append_assoc (decimal_of n) (blank ∷ []) _ ∙ ap (refusal n) (sym c.in-Post.is)) c.numbered.ensures

pub returns-in-Peek : goal.returns-in-Peek
unfolding width_of line_of
returns-in-Peek c =
    let n = c.args.n in
    said_line (append_assoc (decimal_of n) (blank ∷ []) _ ∙ ap (refusal n) (sym c.in-Peek.is)) c.numbered-in-Peek.ensures

pub returns-in-Collect : goal.returns-in-Collect
unfolding width_of line_of
returns-in-Collect c =
    let n = c.args.n in
    said_line (append_assoc (decimal_of n) (blank ∷ []) _ ∙ ap (refusal n) (sym c.in-Collect.is)) c.numbered-in-Collect.ensures

pub returns-in-Withdraw : goal.returns-in-Withdraw
unfolding width_of line_of
returns-in-Withdraw c =
    said_line (ap (refusal c.args.n) (sym c.in-Withdraw.is)) c.decimal.ensures
