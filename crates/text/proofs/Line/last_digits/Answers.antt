-- `text::Line::last_digits` meets its contract: k digits in base 10 and the byte behind them. Assumes nothing.
use native.Mathlib.Omega.{arith}
use lib.ListN.{length-take}
use Rattle.text.proofs.Digits.{digits_ended}
use Rattle.text.proofs.Lines.{reads_line}
use Rattle.text.proofs.Line.last_digits.Goals as goal

pub returns : goal.returns
returns c = let a = c.args in reads_line c.bytes.ensures (digits_ended a.k a.n a.end _ c.fill_digits.new.text (omega arith) c.fill_digits.ensures (simp length-take (omega arith)))
