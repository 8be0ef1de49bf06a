-- `records::desks::rows_in` meets its contract: the rows passed are filled in. Assumes nothing.
use Rattle.records.specs.Records.{row_in}
use Rattle.records.proofs.Filled.{Filled}
use Rattle.records.proofs.desks.rows_in.Given as goal

abbrev pub invariant-loop-i : goal.invariant-loop-i
invariant-loop-i l = Filled (row_in l.rest) 32 l.i l.rows
