-- `sums::outcomes::temperature` meets its contract: each arm takes the equation that it stands for. Assumes nothing.
use Rattle.workings.specs.Workings.{given_of}
use Rattle.sums.specs.Queries.{temperature_of}
use Rattle.sums.proofs.outcomes.temperature.Goals as goal

pub returns-in-Enthalpy : goal.returns-in-Enthalpy
unfolding temperature_of given_of
returns-in-Enthalpy c = rw (c.in-Liquid.is, c.in-Enthalpy.is) c.t1_ph.ensures

pub returns-in-Entropy : goal.returns-in-Entropy
unfolding temperature_of given_of
returns-in-Entropy c = rw (c.in-Liquid.is, c.in-Entropy.is) c.t1_ps.ensures

pub returns-in-Enthalpy-given : goal.returns-in-Enthalpy-given
unfolding temperature_of given_of
returns-in-Enthalpy-given c = rw (c.in-Vapour.is, c.in-Enthalpy-given.is) c.t2_ph.ensures

pub returns-in-Entropy-given : goal.returns-in-Entropy-given
unfolding temperature_of given_of
returns-in-Entropy-given c = rw (c.in-Vapour.is, c.in-Entropy-given.is) c.t2_ps.ensures
