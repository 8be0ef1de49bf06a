-- `saturation_listing::saturation` meets its contract: the line of bad input, or header and lines one behind the other. Assumes nothing.
use Prim.Native.Nat.{ℕ, ◌/◌}
use mathlib.Core.Path.{◌≡◌, refl}
use mathlib.Core.Bool.{Bool, true, false}
use mathlib.Core.List.{List, ◌++◌}
use lib.ListN.{length}
use Rattle.text.specs.Texts.{joined}
use Rattle.std.proofs.Common.{rules}
use Rattle.text.proofs.Lines.{then_line, reads_line, lent}
use Rattle.saturation_listing.specs.Listing.{bad_length, bad_line, header, line_at, saturation_text}
use Rattle.saturation_listing.proofs.saturation.Goals as goal

-- what is said of the input, by whether it was found to be bad
refusal : (s : List ℕ) {b : Bool} → b ≡ bad_length (length s) → b ≡ true → bad_line ≡ saturation_text s
unfolding saturation_text
refusal s e h = rw (← e, h) refl

rows : (s : List ℕ) {b : Bool} → b ≡ bad_length (length s) → b ≡ false → header ++ joined (line_at s) (length s / 8) ≡ saturation_text s
unfolding saturation_text
rows s e h = rw (← e, h) refl

pub returns-then-bad : goal.returns-then-bad
unfolding bad_line
returns-then-bad c =
    lent (search rules) c.end.ensures c.new-line.ensures.start (reads_line c.bytes.ensures (refusal _ c.bad.ensures c.if-bad.true))

pub returns : goal.returns
unfolding header
returns c =
    lent (search rules) c.end-2.ensures c.new-line.ensures.start (reads_line (then_line c.bytes-2.ensures c.lines.ensures) (rows _ c.bad.ensures c.if-bad.false))
