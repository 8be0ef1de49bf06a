-- `replay::replay` is safe and ends, and plays the records of the run as the definition of a run has them (`Next`), up to the end of it (`Ended`): each
-- on the desk that the one before left, from where that one ended. The measure is how many bytes are left. Assumes nothing.
use Prim.Native.Nat.{◌-◌, ◌≤◌}
use lib.ListN.{length}
use Rattle.transcript.specs.Steps.{Next}
use Rattle.transcript.proofs.RunLaws.{Going}
use Rattle.replay.proofs.replay.Given as goal

abbrev pub invariant-loop-after : goal.invariant-loop-after
invariant-loop-after g l = (l.at ≤ length l.run) × (l.k ≤ l.at) × Next l.run l.k l.at l.desk × Going l.run l.k

abbrev pub decreases-loop-after : goal.decreases-loop-after
decreases-loop-after g l = length l.run - l.at
