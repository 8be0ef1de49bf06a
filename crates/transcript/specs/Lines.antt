-- The lines of turns, of a desk given, and of a record that is none, as bytes of ASCII: columns with a blank between them, and a newline at the end.
-- Definitions only.
use Rattle.std.specs.Prelude.{ℕ, List, [], ◌∷◌, ◌++◌, Option, Some, None}
use Rattle.refusals.specs.Refusals.{number_of}
use Rattle.refusals.specs.declared.Refusal.{Refusal}
use Rattle.text.specs.Texts.{blank, newline, number_column}

-- ---- turns: `N turn R HALVED IDLE`

-- the number of a refusal, 0 where there is none
abbrev pub number_if : Option Refusal → ℕ
number_if (Some refusal) = number_of refusal
number_if None = 0

unfoldable pub turns_line : ℕ → ℕ → ℕ → ℕ → List ℕ
turns_line number refusal halved idle =
    (number_column number blank ++ 116 ∷ 117 ∷ 114 ∷ 110 ∷ blank ∷ []) ++ number_column refusal blank ++ number_column halved blank ++ number_column idle newline

-- ---- a desk given, and a record that is none: `N desk`, `N bad record`

unfoldable pub given_line : ℕ → List ℕ
given_line number = number_column number blank ++ 100 ∷ 101 ∷ 115 ∷ 107 ∷ newline ∷ []

unfoldable pub bad_line : ℕ → List ℕ
bad_line number = number_column number blank ++ 98 ∷ 97 ∷ 100 ∷ blank ∷ 114 ∷ 101 ∷ 99 ∷ 111 ∷ 114 ∷ 100 ∷ newline ∷ []
