-- `sums::outcomes::of_hs` meets its contract: the second candidate is asked only where the first was refused. Assumes nothing.
use mathlib.Core.Path.{refl}
use Rattle.sums.specs.Queries.{state_hs}
use Rattle.sums.proofs.Carried.{first_same}
use Rattle.sums.proofs.outcomes.of_hs.Goals as goal

pub returns-then-wild : goal.returns-then-wild
unfolding state_hs
returns-then-wild c = rw (← c.wild.ensures, c.if-wild.true)

pub returns-in-Err : goal.returns-in-Err
unfolding state_hs
returns-in-Err c =
    rw (
      ← c.wild.ensures,
      c.if-wild.false,
      first_same,
      ← c.candidate-found.ensures,
      c.in-Err.is,
    ) c.candidate-found-in-Err.ensures

pub returns-in-Ok : goal.returns-in-Ok
unfolding state_hs
returns-in-Ok c =
    rw (
      ← c.wild.ensures,
      c.if-wild.false,
      first_same,
      ← c.candidate-found.ensures,
      c.in-Ok.is,
    ) refl
