-- `quotients::print` is safe and lists every row: the place behind each text is within the room, and k rows are listed before turn k. Assumes nothing.
use mathlib.Core.Path.{ap, ◌∙◌}
use native.Mathlib.Nat.{le_antisymm}
use Rattle.text.proofs.Pieces.{ends}
use Rattle.sheet.specs.Read.{count_of}
use Rattle.quotients.proofs.print.Goals as goal

pub slice_bounds-room-end : goal.slice_bounds-room-end
slice_bounds-room-end g c = c.head-end.ensures.inside

pub slice_bounds-write_all-end : goal.slice_bounds-write_all-end
slice_bounds-write_all-end g c = ends c.head-end.ensures

pub row-end-requires : goal.row-end-requires
row-end-requires g c =
    c.triples-reading.ensures

pub slice_bounds-room-end-in-loop-k : goal.slice_bounds-room-end-in-loop-k
slice_bounds-room-end-in-loop-k g c = c.row-end.ensures.inside

pub slice_bounds-write_all-end-in-loop-k : goal.slice_bounds-write_all-end-in-loop-k
slice_bounds-write_all-end-in-loop-k g c = ends c.row-end.ensures

pub returns : goal.returns
returns g c =
    c.loop-k.invariant ∙ le_antisymm c.loop-k.auto.k-end c.loop-k-test.false ∙ c.count-k-end.ensures ∙ ap count_of c.triples-reading.ensures
