-- `desk_lines::shown` meets its contract: the desk's line, and a loop over the rows. Assumes nothing.
use mathlib.Core.Path.{sym, ap}
use Rattle.std.proofs.Common.{rules}
use Rattle.text.proofs.Lines.{begun_line, turned_line, ended_line, then_line, said_line, lent}
use Rattle.ledger.specs.Rows.{row}
use Rattle.ledger.proofs.Lists.{row_is}
use Rattle.desk_lines.specs.Lines.{row_line, shown_lines}
use Rattle.desk_lines.proofs.shown.Goals as goal

pub loop-i-init : goal.loop-i-init
loop-i-init c = begun_line _ _

pub loop-i-preserved : goal.loop-i-preserved
loop-i-preserved c =
    let i = c.loop-i.i in
    turned_line (λ k. row_line k (row c.args.d k)) i c.loop-i.invariant
    (said_line (ap (row_line i) (sym (row_is c.args.d _ c.well_formed.1.0 i _ c.loop-i-test.true))) c.row_line.ensures)

pub returns : goal.returns
unfolding shown_lines
returns c =
    lent (search rules) c.end.ensures c.new-line.ensures.start
    (then_line c.desk_line.ensures (ended_line _ c.loop-i.auto.i-end c.loop-i-test.false c.loop-i.invariant))
