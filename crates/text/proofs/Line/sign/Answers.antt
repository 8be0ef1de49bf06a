-- `text::Line::sign` meets its contract: the test is the definition's. Assumes nothing.
use mathlib.Core.Path.{sym, ap}
use mathlib.Core.Bool.{Bool, cond}
use mathlib.Core.List.{[], ◌∷◌}
use borrow.Author.Tests.{le-leb, lt-leb}
use Rattle.text.proofs.Lines.{nothing_line, said_line}
use Rattle.text.proofs.Line.sign.Goals as goal

pub returns-then-bits-ge9223372036854775808 : goal.returns-then-bits-ge9223372036854775808
returns-then-bits-ge9223372036854775808 c =
    said_line (ap (λ (t : Bool). cond t (45 ∷ []) []) (sym (le-leb _ _ c.if-bits-ge9223372036854775808.true))) c.bytes.ensures

pub returns-else-bits-ge9223372036854775808 : goal.returns-else-bits-ge9223372036854775808
returns-else-bits-ge9223372036854775808 c =
    said_line (ap (λ (t : Bool). cond t (45 ∷ []) []) (sym (lt-leb _ _ c.if-bits-ge9223372036854775808.false))) nothing_line
