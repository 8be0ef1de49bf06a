-- The text of a record fits the room that `replay` lends, 8,192 bytes, so that none is cut. Assumes nothing.
use Prim.Native.Nat.{ℕ, ◌≤◌}
use native.Mathlib.Omega.{arith}
use lib.ListN.{length, length-append}
use Rattle.std.proofs.Common.{Option, Some, None}
use Rattle.text.proofs.Lengths.{digits}
use Rattle.ledger.specs.declared.Desk.{Desk}
use Rattle.records.specs.declared.Deed.{Deed}
use Rattle.records.specs.declared.Deed.TheVariants.{Asked, Turns, Given, Shown}
use Rattle.call_lines.proofs.Fits.{call_short}
use Rattle.refusals.specs.Refusals.{number_of}
use Rattle.desk_lines.proofs.Fits.{shown_short}
use Rattle.transcript.specs.Lines.{number_if, turns_line, given_line, bad_line}
use Rattle.turns.specs.Turns.{turns_of}
use Rattle.transcript.specs.Steps.{outcome_of, text_of}

pub text_fits : (number : ℕ) (d : Desk) (deed : Option Deed) → length (text_of number d deed) ≤ 8192
unfolding text_of turns_line given_line bad_line
text_fits number d (Some (Asked call)) = omega (arith, call_short number_of number call (outcome_of d call).answer)
text_fits number d (Some (Turns n)) =
    let t = turns_of n d in
    simp length-append (omega (arith, digits number, digits (number_if t.refusal), digits t.halved, digits t.idle))
text_fits number d (Some Given) = simp length-append (omega (arith, digits number))
text_fits number d (Some Shown) = shown_short number d
text_fits number d None = simp length-append (omega (arith, digits number))
