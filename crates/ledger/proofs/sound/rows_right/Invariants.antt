-- `ledger::sound::rows_right` meets its contract: what the pass has noted is what `Passed` says, and each row that comes next is one of its laws. Assumes nothing.
use Rattle.ledger.proofs.Pass.{Passed}
use Rattle.ledger.proofs.sound.rows_right.Given as goal

abbrev pub invariant-loop-r : goal.invariant-loop-r
invariant-loop-r l = Passed l.d l.r-index l.tickets l.next
