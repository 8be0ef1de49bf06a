-- `saturation::listed` meets its contract: every listing fits this room (`saturation_fits`), so none is cut (`uncut`). Assumes nothing.
use Rattle.text.proofs.Pieces.{uncut}
use Rattle.saturation_listing.proofs.Fits.{saturation_fits}
use Rattle.saturation.proofs.listed.Goals as goal

pub returns : goal.returns
returns c =
    let room = c.saturation-arg-1.given.0.1 in
    uncut c.saturation.ensures (rw room (saturation_fits _))
