-- `transcript::steps::play` meets its contract: what each way of reading a record does. Assumes nothing.
use Prim.Native.Nat.{ℕ}
use mathlib.Core.Path.{sym, ap, ◌∙◌}
use Rattle.std.proofs.Common.{rules}
use Rattle.text.proofs.Pieces.{said, behind}
use Rattle.text.proofs.Lines.{lent}
use Rattle.runs.specs.declared.Outcome.{Outcome}
use Rattle.transcript.specs.declared.Step.{Step}
use Rattle.turns.specs.declared.Turned.{Turned}
use Rattle.call_lines.specs.Lines.{call_line}
use Rattle.refusals.specs.Refusals.{number_of}
use Rattle.transcript.specs.Lines.{turns_line, given_line, bad_line}
use Rattle.transcript.specs.Steps.{desk_after, taken_by, turns_text, text_of}
use Rattle.transcript.proofs.steps.play.Goals as goal

pub returns-in-Some-Asked : goal.returns-in-Some-Asked
unfolding desk_after taken_by text_of given_line bad_line
returns-in-Some-Asked c =
    let e = rw c.in-Some-Asked.field-0-is at c.in-Some-Asked.ensures in
    let a = c.args in
    let call = c.in-Some-Asked.call in
    let r = c.stepped.ensures in (
      record {
        desk = ap (λ (s : Step). s.desk) r ∙ ap (λ (o : Outcome). o.desk) c.asked-o.ensures ∙ ap (desk_after a.rest.now a.d) e;
        taken = ap (λ (s : Step). s.taken) r ∙ ap (taken_by a.rest.now) e;
      },
      behind (sym (ap (λ (s : Step). s.end) r)) (said (ap (λ (o : Outcome). call_line number_of a.number call o.answer) c.asked-o.ensures ∙ ap (text_of a.number a.d) e) c.told-end.ensures),
    )

pub returns-in-Some-Turns : goal.returns-in-Some-Turns
unfolding desk_after taken_by text_of given_line bad_line
returns-in-Some-Turns c =
    let e = rw c.in-Some-Turns.field-0-is at c.in-Some-Turns.ensures in
    let a = c.args in
    let r = c.stepped-in-Some-Turns.ensures in (
      record {
        desk = ap (λ (s : Step). s.desk) r ∙ ap (λ (t : Turned). t.desk) c.turns-t.ensures ∙ ap (desk_after a.rest.now a.d) e;
        taken = ap (λ (s : Step). s.taken) r ∙ ap (taken_by a.rest.now) e;
      },
      behind (sym (ap (λ (s : Step). s.end) r)) (said (ap (λ (n : ℕ). turns_line a.number n c.turns-t.result.halved c.turns-t.result.idle) c.number_if.ensures ∙ ap (turns_text a.number) c.turns-t.ensures ∙ ap (text_of a.number a.d) e) (lent (search rules) c.end.ensures c.new-line.ensures.start c.turned.ensures)),
    )

pub returns-in-Some-Given : goal.returns-in-Some-Given
unfolding desk_after taken_by text_of given_line bad_line
returns-in-Some-Given c =
    let e = rw c.in-Some-Given.field-0-is at c.in-Some-Given.ensures in
    let a = c.args in
    let r = c.stepped-in-Some-Given.ensures in (
      record {
        desk = ap (λ (s : Step). s.desk) r ∙ c.desk_in.ensures ∙ ap (desk_after a.rest.now a.d) e;
        taken = ap (λ (s : Step). s.taken) r ∙ ap (taken_by a.rest.now) e;
      },
      behind (sym (ap (λ (s : Step). s.end) r)) (said (ap (text_of a.number a.d) e) (lent (search rules) c.end-in-Some-Given.ensures c.new-line-in-Some-Given.ensures.start c.opened.ensures)),
    )

pub returns-in-Some-Shown : goal.returns-in-Some-Shown
unfolding desk_after taken_by text_of given_line bad_line
returns-in-Some-Shown c =
    let e = rw c.in-Some-Shown.field-0-is at c.in-Some-Shown.ensures in
    let a = c.args in
    let r = c.stepped-in-Some-Shown.ensures in (
      record {
        desk = ap (λ (s : Step). s.desk) r ∙ ap (desk_after a.rest.now a.d) e;
        taken = ap (λ (s : Step). s.taken) r ∙ ap (taken_by a.rest.now) e;
      },
      behind (sym (ap (λ (s : Step). s.end) r)) (said (ap (text_of a.number a.d) e) c.shown.ensures),
    )

pub returns-in-None : goal.returns-in-None
unfolding desk_after taken_by text_of given_line bad_line
returns-in-None c =
    let e = c.in-None.ensures in
    let a = c.args in
    let r = c.stepped-in-None.ensures in (
      record {
        desk = ap (λ (s : Step). s.desk) r ∙ ap (desk_after a.rest.now a.d) e;
        taken = ap (λ (s : Step). s.taken) r ∙ ap (taken_by a.rest.now) e;
      },
      behind (sym (ap (λ (s : Step). s.end) r)) (said (ap (text_of a.number a.d) e) (lent (search rules) c.end-in-None.ensures c.new-line-in-None.ensures.start c.opened-in-None.ensures)),
    )
