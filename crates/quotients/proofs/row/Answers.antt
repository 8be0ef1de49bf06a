-- `quotients::row` meets its contract: the lines of every row fit this room (`quotients_fits`), so none is cut (`uncut`). Assumes nothing.
use mathlib.Core.Path.{ap}
use Rattle.text.proofs.Pieces.{said, uncut}
use Rattle.std.proofs.Common.{Result}
use Rattle.refusals.specs.declared.Refusal.{Refusal}
use Rattle.sheet.specs.declared.reader.Rows.{Rows}
use Rattle.listing.specs.Listings.{quotients_row}
use Rattle.listing.proofs.Fits.{quotients_fits}
use Rattle.quotients.proofs.row.Goals as goal

pub returns : goal.returns
returns c =
    let room = c.quotients-arg-1.given.0.1 in
    uncut (said (ap (λ (r : Result Rows Refusal). quotients_row c.args.sheet.now r c.args.k) c.requires) c.quotients.ensures) (rw room (quotients_fits c.args.sheet.now c.args.k))
