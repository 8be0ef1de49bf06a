-- `records::desks::rows_known` meets its contract: each row passed says 1 or 0, and the first that does not settles it. Assumes nothing.
use mathlib.Core.Bool.{true}
use mathlib.Core.Path.{◌≡◌}
use lib.Dec.{leb}
use Rattle.words.specs.Words.{word_of}
use Rattle.ledger.specs.Search.{upto}
use Rattle.records.specs.Records.{row_start}
use Rattle.records.proofs.desks.rows_known.Given as goal

abbrev pub invariant-loop-i : goal.invariant-loop-i
invariant-loop-i l = upto (λ k. leb (word_of l.rest (row_start k)) 1) l.i ≡ true
