-- `desk_lines::counts` meets its contract: a loop of seven counts, and the eighth. Assumes nothing.
use Rattle.text.specs.Lines.{Writes}
use Rattle.text.specs.Texts.{blank, number_column, joined}
use Rattle.ledger.specs.Rows.{counted}
use Rattle.desk_lines.proofs.counts.Given as goal

abbrev pub invariant-loop-c : goal.invariant-loop-c
invariant-loop-c l = Writes l.initial.line (joined (λ k. number_column (counted l.d k) blank) l.c) l.line
