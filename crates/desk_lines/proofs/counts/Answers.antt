-- `desk_lines::counts` meets its contract: a loop of seven counts, and the eighth. Assumes nothing.
use Rattle.text.specs.Texts.{blank, number_column}
use Rattle.text.proofs.Lines.{begun_line, turned_line, ended_line, then_line}
use Rattle.ledger.specs.Rows.{counted}
use Rattle.desk_lines.specs.Lines.{count_columns}
use Rattle.desk_lines.proofs.counts.Goals as goal

pub loop-c-init : goal.loop-c-init
loop-c-init c = begun_line _ _

pub loop-c-preserved : goal.loop-c-preserved
loop-c-preserved c = turned_line (λ k. number_column (counted c.args.d k) blank) c.loop-c.c c.loop-c.invariant c.decimal.ensures

pub returns : goal.returns
unfolding count_columns
returns c = then_line (ended_line _ c.loop-c.auto.c-end c.loop-c-test.false c.loop-c.invariant) c.decimal-2.ensures
