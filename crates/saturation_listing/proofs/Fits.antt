-- Every text fits the room that its program lends, so that none is cut: the refusal and the place have one digit each, so that a line has at most 42 bytes,
-- and there are at most 8,192 lines. Assumes nothing.
use Prim.Native.Nat.{ℕ, ◌+◌, ◌/◌, ◌%◌, ◌≤◌, ◌<◌}
use native.Mathlib.Omega.{arith}
use mathlib.Core.Path.{◌≡◌, refl}
use mathlib.Core.Bool.{Bool, true, false, cond, not, ◌||◌}
use mathlib.Core.List.{List, ◌++◌}
use Rattle.std.proofs.Common.{Option, Some, None, Result, Ok, Err}
use lib.Dec.{ltb, eqb}
use lib.Ieee.{Float}
use lib.ListN.{length, length-append}
use borrow.Author.Tests.{lt-ltb, ltb-false}
use Rattle.arith.specs.Bits.{finite, float_of}
use Rattle.words.specs.Words.{word_of}
use Rattle.text.specs.Texts.{decimal_from, decimal_of, joined}
use Rattle.text.proofs.Lengths.{digits, column_short, joined_short}
use Rattle.saturation_line.specs.Pressure.{ps_of}
use Rattle.saturation_line.specs.declared.SaturationPressure.{SaturationPressure}
use Rattle.saturation_line.specs.declared.SaturationPressure.TheVariants.{UpTo623, Above623}
use Rattle.refusals.specs.Refusals.{number_in}
use Rattle.refusals.specs.declared.Refusal.{Refusal}
use Rattle.saturation_reply.specs.Answers.{place_of, value_of}
use Rattle.saturation_reply.specs.Asked.{said_of, saturation_of}
use Rattle.saturation_listing.specs.Listing.{longest, bad_length, bad_line, header, answer_line, temperature_line, line_at, saturation_text}

-- ---- a line

-- a number below ten has one digit
one_digit : (n : ℕ) → n < 10 → length (decimal_of n) ≡ 1
unfolding decimal_of decimal_from
one_digit n h = rw (lt-ltb n 10 h) refl

-- the refusal is 0, 1 or 3
refusal_small : (t : Float) → number_in (saturation_of t) < 10
unfolding saturation_of
refusal_small t = go (finite t) (ps_of t)
  where
    go : (b : Bool) (s : Option SaturationPressure) → number_in (cond b (said_of s) (Err Refusal.NotFinite)) < 10
    go true (Some p) = omega arith
    go true None = omega arith
    go false s = omega arith

-- the place is 0, 1 or 2
place_small : (a : Result SaturationPressure Refusal) → place_of a < 10
place_small (Ok (UpTo623 p)) = omega arith
place_small (Ok (Above623 p)) = omega arith
place_small (Err refusal) = omega arith

line_short : (number : ℕ) (t : Float) → length (temperature_line number t) ≤ 42
unfolding answer_line
line_short number t =
    let a = saturation_of t in
    simp length-append
    (omega (arith, digits number, one_digit (number_in a) (refusal_small t), one_digit (place_of a) (place_small a), column_short (value_of a)))

-- ---- the text

-- what is not bad is not too long
not_long : (n : ℕ) → bad_length n ≡ false → n ≤ longest
unfolding bad_length
not_long n e = go (ltb longest n) refl e
  where
    go : (b : Bool) → ltb longest n ≡ b → (b || not (eqb (n % 8) 0)) ≡ false → n ≤ longest
    go true h q = absurd (let z : ◌≡◌ {A = ℕ} 0 1 = cc in omega arith)
    go false h q = ltb-false longest n h

-- what `saturation` lends
pub saturation_fits : (s : List ℕ) → length (saturation_text s) ≤ 344083
unfolding saturation_text bad_line header
saturation_fits s = go (bad_length (length s)) refl
  where
    go : (b : Bool) → bad_length (length s) ≡ b → length (cond b bad_line (header ++ joined (line_at s) (length s / 8))) ≤ 344083
    go true e = omega arith
    go false e =
        simp length-append
        (omega (arith, not_long (length s) e, joined_short (line_at s) 42 (length s / 8) (λ k. line_short (k + 1) (float_of (word_of s k)))))
