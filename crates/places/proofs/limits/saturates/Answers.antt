-- `places::limits::saturates` meets its contract: the literal is ps(623.15), by working it out. Assumes nothing.
use mathlib.Core.Path.{refl}
use Rattle.places.specs.Places.{saturates}
use Rattle.places.proofs.Ends.{p_end_lem}
use Rattle.places.proofs.limits.saturates.Goals as goal

pub returns : goal.returns
unfolding saturates
returns c = rw (p_end_lem) refl
