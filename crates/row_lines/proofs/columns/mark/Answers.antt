-- `row_lines::columns::mark` meets its contract: an answer of no region is a refusal, any other has its mark. Assumes nothing.
use mathlib.Core.Path.{ap, ◌∙◌}
use borrow.Author.Tests.{eq-eqb, ne_eqb}
use Rattle.row_lines.specs.Lines.{digit_of}
use Rattle.row_lines.proofs.columns.mark.Goals as goal

pub returns-then-region-eq0 : goal.returns-then-region-eq0
returns-then-region-eq0 c = rw (← c.region.ensures, eq-eqb c.region.result 0 c.if-region-eq0.true)

pub returns-else-region-eq0 : goal.returns-else-region-eq0
returns-else-region-eq0 c =
    rw (← c.region.ensures, ne_eqb c.region.result 0 c.if-region-eq0.false)
    (c.digit.ensures ∙ ap digit_of c.mark.ensures)
