-- `regions::listed` meets its contract: every listing fits this room (`regions_fits`), so none is cut (`uncut`). Assumes nothing.
use Rattle.text.proofs.Pieces.{uncut}
use Rattle.listing.proofs.Fits.{regions_fits}
use Rattle.regions.proofs.listed.Goals as goal

pub returns : goal.returns
returns c =
    let room = c.regions-arg-1.given.0.1 in
    uncut c.regions.ensures (rw room (regions_fits _))
