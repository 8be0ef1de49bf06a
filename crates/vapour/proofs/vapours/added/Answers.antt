-- `vapour::vapours::added` meets its contract: each field is its formula, with what `gibbs` promises. Assumes nothing.
use mathlib.Core.Path.{refl}
use lib.Ieee.{of_int, of_bits}
use Rattle.vapour.specs.Vapour.{vapour_of}
use Rattle.vapour.proofs.vapours.added.Goals as goal

pub returns : goal.returns
unfolding vapour_of of_int of_bits
returns c = rw c.gibbs.ensures refl
