-- `answers::listed` meets its contract: every listing fits this room (`answers_fits`), so none is cut (`uncut`). Assumes nothing.
use Rattle.text.proofs.Pieces.{uncut}
use Rattle.listing.proofs.Fits.{answers_fits}
use Rattle.answers.proofs.listed.Goals as goal

pub returns : goal.returns
returns c =
    let room = c.answers-arg-1.given.0.1 in
    uncut c.answers.ensures (rw room (answers_fits _))
