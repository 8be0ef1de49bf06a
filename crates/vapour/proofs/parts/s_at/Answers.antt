-- `vapour::s_at` meets its contract: s takes of γ no more than γ and γτ. Assumes nothing.
use mathlib.Core.Path.{refl}
use Rattle.properties.specs.Properties.{rooted_of}
use Rattle.vapour.proofs.Summed.{s_from}
use Rattle.vapour.proofs.parts.s_at.Goals as goal

pub returns : goal.returns
unfolding rooted_of
returns g c =
    s_from g.V.Parts.ideal g.V.Parts.residual g.V.Parts.shifted c.entropy.ensures c.gibbs.ensures c.residual_both-residual.ensures c.ideal_both-ideal.ensures refl
