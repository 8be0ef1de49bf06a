-- `saturation_listing::lines::lines` meets its contract. The invariant: the lines of the first k words are written.
-- Assumes nothing.
use Prim.Native.Nat.{◌+◌}
use mathlib.Core.Path.{ap, ◌∙◌}
use Rattle.arith.specs.Bits.{float_of}
use Rattle.saturation_listing.specs.Listing.{temperature_line, line_at}
use Rattle.text.proofs.Lines.{reads_line, begun_line, turned_line, ended_line}
use Rattle.saturation_listing.proofs.lines.lines.Goals as goal

pub loop-k-init : goal.loop-k-init
loop-k-init c = begun_line _ _

pub loop-k-preserved : goal.loop-k-preserved
loop-k-preserved c =
    let a = c.args in
    let k = c.loop-k.k in
    turned_line (line_at a.input.now) k c.loop-k.invariant (reads_line c.temperature_line.ensures (ap (temperature_line (k + 1)) (c.float_of-t.ensures ∙ ap float_of c.word.ensures)))

pub returns : goal.returns
returns c = let l = c.loop-k in ended_line _ l.auto.k-end c.loop-k-test.false l.invariant
