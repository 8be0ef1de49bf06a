-- `saturation::main` is safe: the place behind the text is within the room. Assumes nothing.
use Rattle.text.proofs.Pieces.{ends}
use Rattle.saturation.proofs.main.Goals as goal

pub slice_bounds-room-end : goal.slice_bounds-room-end
slice_bounds-room-end c = c.listed-end.ensures.inside

pub slice_bounds-write_all-end : goal.slice_bounds-write_all-end
slice_bounds-write_all-end c = ends c.listed-end.ensures
