-- The text of `saturation`: the saturation pressure at each of the temperatures that come in, as bytes of ASCII. Definitions only.
use Rattle.std.specs.Prelude.{ℕ, ◌+◌, ◌/◌, ◌%◌, Bool, cond, not, ◌||◌, List, [], ◌∷◌, ◌++◌, ltb, eqb, Float, length, Result}
use Rattle.arith.specs.Bits.{float_of}
use Rattle.words.specs.Words.{word_of}
use Rattle.text.specs.Texts.{column_of, blank, newline, number_column, joined}
use Rattle.refusals.specs.Refusals.{number_in}
use Rattle.refusals.specs.declared.Refusal.{Refusal}
use Rattle.saturation_line.specs.declared.SaturationPressure.{SaturationPressure}
use Rattle.saturation_reply.specs.Answers.{place_of, value_of}
use Rattle.saturation_reply.specs.Asked.{saturation_of}

-- ---- what comes in

-- the longest input: 8,192 words of eight bytes
abbrev pub longest : ℕ
longest = 65536

-- so many bytes are bad input: more than the longest has, or no whole number of words
unfoldable pub bad_length : ℕ → Bool
bad_length n = ltb longest n || not (eqb (n % 8) 0)

-- `bad input`, all that is said of it
unfoldable pub bad_line : List ℕ
bad_line = 98 ∷ 97 ∷ 100 ∷ 32 ∷ 105 ∷ 110 ∷ 112 ∷ 117 ∷ 116 ∷ newline ∷ []

-- ---- lines: columns with a blank between them, and a newline at the end

-- `row answer place p`
unfoldable pub header : List ℕ
header = 114 ∷ 111 ∷ 119 ∷ 32 ∷ 97 ∷ 110 ∷ 115 ∷ 119 ∷ 101 ∷ 114 ∷ 32 ∷ 112 ∷ 108 ∷ 97 ∷ 99 ∷ 101 ∷ 32 ∷ 112 ∷ newline ∷ []

-- a row's number, the refusal, the place and p
unfoldable pub answer_line : ℕ → Result SaturationPressure Refusal → List ℕ
answer_line number a =
    number_column number blank ++ number_column (number_in a) blank ++ number_column (place_of a) blank ++ (column_of (value_of a) ++ newline ∷ [])

-- the line of a T in K
abbrev pub temperature_line : ℕ → Float → List ℕ
temperature_line number t = answer_line number (saturation_of t)

-- word k's line, numbered from 1: the word holds the bits of T
abbrev pub line_at : List ℕ → ℕ → List ℕ
line_at s k = temperature_line (k + 1) (float_of (word_of s k))

-- ---- the text

-- the header and a line a word; of bad input only that it is bad
unfoldable pub saturation_text : List ℕ → List ℕ
saturation_text s = cond (bad_length (length s)) bad_line (header ++ joined (line_at s) (length s / 8))
