-- `sums::candidates::pressure` meets its contract: each arm takes the equation that it stands for. Assumes nothing.
use Rattle.sums.specs.Queries.{pressure_of}
use Rattle.sums.proofs.candidates.pressure.Goals as goal

pub returns-in-Liquid : goal.returns-in-Liquid
unfolding pressure_of
returns-in-Liquid c = rw c.in-Liquid.is c.p1_hs.ensures

pub returns-in-Vapour : goal.returns-in-Vapour
unfolding pressure_of
returns-in-Vapour c = rw c.in-Vapour.is c.p2_hs.ensures
