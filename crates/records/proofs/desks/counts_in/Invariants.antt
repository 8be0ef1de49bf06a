-- `records::desks::counts_in` meets its contract: the counts passed are filled in. Assumes nothing.
use Rattle.records.specs.Records.{count_in}
use Rattle.records.proofs.Filled.{Filled}
use Rattle.records.proofs.desks.counts_in.Given as goal

abbrev pub invariant-loop-c : goal.invariant-loop-c
invariant-loop-c l = Filled (count_in l.rest) 8 l.c l.counts
