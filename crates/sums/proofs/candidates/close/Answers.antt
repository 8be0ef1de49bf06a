-- `sums::candidates::close` meets its contract: the state tested is the state given. Assumes nothing.
use mathlib.Core.Path.{ap}
use lib.Ieee.{round, of_bits}
use Rattle.arith.specs.Printed.{printed}
use Rattle.properties.specs.Properties.{rooted_of}
use Rattle.workings.specs.Workings.{state_at, worked_at}
use Rattle.states.specs.declared.Full.{Full}
use Rattle.sums.specs.Queries.{close_of}
use Rattle.sums.proofs.candidates.close.Goals as goal

pub returns-then-both_near : goal.returns-then-both_near
unfolding close_of state_at worked_at printed round of_bits
returns-then-both_near c =
    let state = ap (λ (a : Full). rooted_of a.worked.unrooted) c.carried-a.ensures in
    rw (← state, ← c.both_near.ensures, c.if-both_near.true, c.carried-a.ensures)

pub returns : goal.returns
unfolding close_of state_at worked_at printed round of_bits
returns c =
    let state = ap (λ (a : Full). rooted_of a.worked.unrooted) c.carried-a.ensures in
    rw (← state, ← c.both_near.ensures, c.if-both_near.false)
