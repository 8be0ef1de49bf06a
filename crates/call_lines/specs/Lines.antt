-- The line of a call, as bytes of ASCII: `N NAME R`, and what was handed out; columns with a blank between them, and a newline at the end. Definitions only.
use Rattle.std.specs.Prelude.{ℕ, List, [], ◌∷◌, ◌++◌, replicate, Result, Ok, Err}
use Rattle.text.specs.Texts.{decimal_of, value_of, blank, newline}
use Rattle.equations.specs.Equations.{region_of}
use Rattle.states.specs.declared.Single.{Single}
use Rattle.ledger.specs.Search.{bit}
use Rattle.refusals.specs.Refusals.{number_by}
use Rattle.refusals.specs.declared.Refusal.{Refusal}
use Rattle.runs.specs.Answers.{Value, whole, kelvin, state, values_of}
use Rattle.runs.specs.declared.Answer.{Answer}
use Rattle.records.specs.declared.Call.{Call}
use Rattle.records.specs.declared.Call.TheVariants.{Post, Peek, Collect, Withdraw}

-- ---- what was handed out

-- region, mark (1 verified, 0 not), p, T, v, u, h, s, cp, w
unfoldable pub state_columns : Single → List (List ℕ)
state_columns a =
    decimal_of (region_of a.equation)
    ∷ decimal_of (bit a.verified)
    ∷ value_of a.p
    ∷ value_of a.t
    ∷ value_of a.state.v
    ∷ value_of a.state.u
    ∷ value_of a.state.h
    ∷ value_of a.state.s
    ∷ value_of a.state.cp
    ∷ value_of a.state.w
    ∷ []

unfoldable pub columns_of : List Value → List (List ℕ)
columns_of [] = []
columns_of (whole n ∷ rest) = decimal_of n ∷ columns_of rest
columns_of (kelvin x ∷ rest) = value_of x ∷ columns_of rest
columns_of (state s ∷ rest) = state_columns s.single ++ columns_of rest

-- how many columns a call hands out: a ticket; halvings, lo and hi; region, mark, eight values, number, lo and hi; nothing
unfoldable pub width_of : Call → ℕ
width_of (Post caller kind p y number) = 1
width_of (Peek caller ticket) = 3
width_of (Collect caller ticket) = 13
width_of (Withdraw caller ticket) = 0

-- the values handed out; where the call is refused, `-` for each column of what it would have been
unfoldable pub handed_of : {E : Type 0} → Call → Result Answer E → List (List ℕ)
handed_of call (Err refusal) = replicate (width_of call) (45 ∷ [])
handed_of call (Ok a) = columns_of (values_of (Ok a))

-- ---- the line

-- columns one behind the other, a blank before each, and the newline
unfoldable pub line_of : List (List ℕ) → List ℕ
line_of [] = newline ∷ []
line_of (column ∷ rest) = blank ∷ column ++ line_of rest

-- `post`, `peek`, `collect`, `withdraw`
unfoldable pub name_of : Call → List ℕ
name_of (Post caller kind p y number) = 112 ∷ 111 ∷ 115 ∷ 116 ∷ []
name_of (Peek caller ticket) = 112 ∷ 101 ∷ 101 ∷ 107 ∷ []
name_of (Collect caller ticket) = 99 ∷ 111 ∷ 108 ∷ 108 ∷ 101 ∷ 99 ∷ 116 ∷ []
name_of (Withdraw caller ticket) = 119 ∷ 105 ∷ 116 ∷ 104 ∷ 100 ∷ 114 ∷ 97 ∷ 119 ∷ []

-- what a call that is not refused handed out, behind a 0
unfoldable pub given_of : Answer → List ℕ
given_of a = decimal_of 0 ++ line_of (columns_of (values_of (Ok a)))

-- the refusal by its number, 0 if there is none, and what was handed out
unfoldable pub answer_of : {E : Type 0} → (E → ℕ) → Call → Result Answer E → List ℕ
answer_of numbered call a = decimal_of (number_by numbered a) ++ line_of (handed_of call a)

unfoldable pub call_line : {E : Type 0} → (E → ℕ) → ℕ → Call → Result Answer E → List ℕ
call_line numbered number call a = decimal_of number ++ blank ∷ name_of call ++ blank ∷ answer_of numbered call a
