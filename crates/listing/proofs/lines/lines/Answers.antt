-- `listing::lines::lines` meets its contract. The invariant: the lines of the first k rows are written.
-- Assumes nothing.
use Prim.Native.Nat.{◌+◌}
use mathlib.Core.Path.{ap}
use Rattle.listing.specs.Listings.{row_line, line_at}
use Rattle.text.proofs.Lines.{reads_line, begun_line, turned_line, ended_line}
use Rattle.listing.proofs.lines.lines.Goals as goal

pub loop-k-init : goal.loop-k-init
loop-k-init c = begun_line _ _

pub loop-k-preserved : goal.loop-k-preserved
loop-k-preserved c =
    let a = c.args in
    let k = c.loop-k.k in
    turned_line (line_at a.listing a.sheet.now a.start) k c.loop-k.invariant (reads_line c.row_line.ensures (ap (row_line a.listing (k + 1)) c.row-row.ensures))

pub returns : goal.returns
returns c = let l = c.loop-k in ended_line _ l.auto.k-end c.loop-k-test.false l.invariant
