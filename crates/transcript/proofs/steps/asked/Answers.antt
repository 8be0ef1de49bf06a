-- `transcript::steps::asked` meets its contract, case by case. Assumes nothing.
use mathlib.Core.Path.{sym, ap, ◌∙◌}
use Rattle.transcript.specs.Steps.{outcome_of}
use Rattle.transcript.proofs.steps.asked.Goals as goal

pub returns-in-Post : goal.returns-in-Post
returns-in-Post c = c.post.ensures ∙ ap (outcome_of _) (sym c.in-Post.is)

pub returns-in-Peek : goal.returns-in-Peek
returns-in-Peek c = c.peek.ensures ∙ ap (outcome_of _) (sym c.in-Peek.is)

pub returns-in-Collect : goal.returns-in-Collect
returns-in-Collect c = c.collect.ensures ∙ ap (outcome_of _) (sym c.in-Collect.is)

pub returns-in-Withdraw : goal.returns-in-Withdraw
returns-in-Withdraw c = c.withdraw.ensures ∙ ap (outcome_of _) (sym c.in-Withdraw.is)
