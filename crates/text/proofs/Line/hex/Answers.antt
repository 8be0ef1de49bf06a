-- `text::Line::hex` meets its contract: 16 digits in base 16 and the byte behind them. Assumes nothing.
use mathlib.Core.Path.{ap, ◌∙◌}
use mathlib.Core.List.{List, [], ◌∷◌, ◌++◌}
use Prim.Native.Nat.{ℕ}
use Rattle.text.specs.Texts.{hex_of}
use Rattle.text.proofs.Digits.{digits_hex}
use Rattle.text.proofs.Lines.{said_line}
use Rattle.text.proofs.Line.hex.Goals as goal

pub returns : goal.returns
unfolding hex_of
returns c = said_line (ap (λ (l : List ℕ). l ++ c.args.end ∷ []) (c.fill_digits.ensures ∙ digits_hex 16 c.args.bits)) c.bytes.ensures
