-- `quotients::head` meets its contract: every head fits this room (`quotients_head_fits`), so none is cut (`uncut`). Assumes nothing.
use Rattle.text.proofs.Pieces.{uncut}
use Rattle.listing.proofs.Fits.{quotients_head_fits}
use Rattle.quotients.proofs.head.Goals as goal

pub returns : goal.returns
returns c =
    let room = c.quotients_head-arg-1.given.0.1 in
    uncut c.quotients_head.ensures (rw room (quotients_head_fits _ _))
