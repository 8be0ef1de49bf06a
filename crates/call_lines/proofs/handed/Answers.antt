-- `call_lines::handed` meets its contract, case by case. Assumes nothing.
use Prim.Native.Nat.{ℕ}
use mathlib.Core.Path.{◌≡◌, refl, sym, ap, ◌∙◌}
use mathlib.Core.List.{List, [], ◌∷◌, ◌++◌}
use mathlib.Core.Logic.{◌⊎◌, inl, inr}
use Rattle.text.specs.Texts.{decimal_of, value_of, newline}
use Rattle.text.proofs.Lines.{said_line, reads_line}
use Rattle.runs.specs.declared.Answer.{Answer}
use Rattle.runs.specs.declared.Answer.TheVariants.{Halved, Idle, Freed}
use Rattle.call_lines.specs.Lines.{state_columns, line_of, given_of}
use Rattle.call_lines.proofs.Pieces.{of_ticket, of_bracket, of_state, of_halved, of_idle, of_freed}
use Rattle.call_lines.proofs.handed.Goals as goal

-- the answers that hand nothing out
no_more : (a : Answer) → (a ≡ Halved) ⊎ ((a ≡ Idle) ⊎ (a ≡ Freed)) → 48 ∷ newline ∷ [] ≡ given_of a
no_more a (inl e) = of_halved ∙ ap given_of (sym e)
no_more a (inr (inl e)) = of_idle ∙ ap given_of (sym e)
no_more a (inr (inr e)) = of_freed ∙ ap given_of (sym e)

pub returns-in-Ticket : goal.returns-in-Ticket
returns-in-Ticket c =
    said_line (of_ticket _ ∙ ap given_of (sym c.in-Ticket.is)) c.ticket.ensures

pub returns-in-Shown : goal.returns-in-Shown
returns-in-Shown c =
    said_line (of_bracket _ _ _ ∙ ap given_of (sym c.in-Shown.is)) c.peeked.ensures

pub returns-in-State : goal.returns-in-State
returns-in-State c =
    let a = c.in-State in
    let columns : List (List ℕ) = state_columns a.settled.single ++ decimal_of a.number ∷ value_of a.lo ∷ value_of a.hi ∷ [] in
    let line = reads_line {t = 48 ∷ line_of columns} c.collected.ensures refl in
    said_line (of_state _ _ _ _ ∙ ap given_of (sym a.is)) line

pub returns-in-Halved : goal.returns-in-Halved
returns-in-Halved c =
    said_line (no_more _ c.in-Halved.is) c.bytes.ensures
