-- `listing::derivatives::lines` meets its contract. The invariant: the lines of the first k triples are written.
-- Assumes nothing.
use Prim.Native.Nat.{ℕ, ◌+◌, ◌*◌}
use mathlib.Core.Path.{ap, ◌∙◌}
use lib.ListN.{get_or}
use Rattle.row_lines.specs.Lines.{quotient_line, triple_line, quotient_lines}
use Rattle.text.proofs.Lines.{said_line, begun_line, turned_line, ended_line}
use Rattle.listing.proofs.derivatives.lines.Goals as goal

pub loop-k-init : goal.loop-k-init
loop-k-init c = begun_line _ _

pub loop-k-preserved : goal.loop-k-preserved
loop-k-preserved c =
    let a = c.args in
    let k = c.loop-k.k in
    let of = quotient_line a.number a.row in
    let note = a.note.now in
    turned_line (triple_line a.number a.row note) k c.loop-k.invariant
    (said_line
    (ap (λ (n : ℕ). of n c.from-in-loop-k.result c.from-in-loop-k-2.result) c.from.ensures
    ∙ ap (λ (n : ℕ). of (get_or note (3 * k) 0) n c.from-in-loop-k-2.result) c.from-in-loop-k.ensures
    ∙ ap (of (get_or note (3 * k) 0) (get_or note (3 * k + 1) 0)) c.from-in-loop-k-2.ensures)
    c.quotient_line.ensures)

pub returns : goal.returns
unfolding quotient_lines
returns c = let l = c.loop-k in ended_line _ l.auto.k-end c.loop-k-test.false l.invariant
