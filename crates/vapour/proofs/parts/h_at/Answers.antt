-- `vapour::h_at` meets its contract: h takes of γ no more than γτ. Assumes nothing.
use mathlib.Core.Path.{refl}
use Rattle.properties.specs.Properties.{rooted_of}
use Rattle.vapour.proofs.Summed.{h_from}
use Rattle.vapour.proofs.parts.h_at.Goals as goal

pub returns : goal.returns
unfolding rooted_of
returns g c = h_from g.V.Parts.ideal g.V.Parts.residual g.V.Parts.shifted c.enthalpy.ensures c.residual_slope.ensures c.ideal_slope.ensures refl
