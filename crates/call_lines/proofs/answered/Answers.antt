-- `call_lines::answered` meets its contract, case by case. Assumes nothing.
use Prim.Native.Nat.{ℕ}
use mathlib.Core.Path.{sym, ap, ◌∙◌}
use mathlib.Core.List.{[], ◌∷◌, ◌++◌}
use lib.ListN.{replicate}
use Rattle.text.specs.Texts.{decimal_of}
use Rattle.text.proofs.Lines.{said_line}
use Rattle.call_lines.specs.Lines.{width_of, handed_of, line_of, answer_of}
use Rattle.call_lines.proofs.Pieces.{of_given}
use Rattle.call_lines.proofs.answered.Goals as goal

pub returns-in-Ok : goal.returns-in-Ok
returns-in-Ok g c =
    said_line (of_given _ c.args.call _ ∙ ap (answer_of _ c.args.call) (sym c.in-Ok.is)) c.handed.ensures

pub returns-in-Err : goal.returns-in-Err
unfolding answer_of handed_of
returns-in-Err g c =
    let a = c.args in
    said_line
    (ap (λ (n : ℕ). decimal_of n ++ line_of (replicate (width_of a.call) (45 ∷ []))) c.as_number.ensures ∙ ap (answer_of _ a.call) (sym c.in-Err.is))
    c.refused.ensures
