-- The texts of specs/Lines as the pieces in which the code writes them. Assumes nothing.
use Prim.Native.Nat.{ℕ}
use mathlib.Core.Path.{◌≡◌, refl}
use mathlib.Core.List.{[], ◌∷◌, ◌++◌, append_assoc}
use lib.Ieee.{Float}
use Rattle.std.proofs.Common.{Result, Ok}
use Rattle.text.specs.Texts.{decimal_from, decimal_of, value_of, column_of, blank, newline, number_column, float_column}
use Rattle.equations.specs.Equations.{region_of}
use Rattle.states.specs.declared.Single.{Single}
use Rattle.settle.specs.declared.Settled.{Settled}
use Rattle.ledger.specs.Search.{bit}
use Rattle.runs.specs.declared.Answer.{Answer}
use Rattle.runs.specs.declared.Answer.TheVariants.{Ticket, Halved, Idle, Shown, State, Freed}
use Rattle.records.specs.declared.Call.{Call}
use Rattle.call_lines.specs.Lines.{state_columns, columns_of, handed_of, line_of, name_of, given_of, answer_of, call_line}

no_refusal : decimal_of 0 ≡ 48 ∷ []
unfolding decimal_of decimal_from
no_refusal = refl

pub of_ticket : (t : ℕ) → (48 ∷ blank ∷ []) ++ number_column t newline ≡ given_of (Ticket t)
unfolding given_of columns_of line_of
of_ticket t = rw no_refusal

pub of_bracket : (n : ℕ) (lo hi : Float)
    → (48 ∷ blank ∷ []) ++ number_column n blank ++ float_column lo blank ++ float_column hi newline ≡ given_of (Shown n lo hi)
unfolding given_of columns_of line_of column_of
of_bracket n lo hi = rw no_refusal (simp append_assoc)

pub of_state : (s : Settled) (n : ℕ) (lo hi : Float)
    → 48 ∷ line_of (state_columns s.single ++ decimal_of n ∷ value_of lo ∷ value_of hi ∷ []) ≡ given_of (State s n lo hi)
unfolding given_of columns_of
of_state s n lo hi = rw no_refusal

pub of_halved : 48 ∷ newline ∷ [] ≡ given_of Halved
unfolding given_of columns_of line_of
of_halved = rw no_refusal

pub of_idle : 48 ∷ newline ∷ [] ≡ given_of Idle
unfolding given_of columns_of line_of
of_idle = rw no_refusal

pub of_freed : 48 ∷ newline ∷ [] ≡ given_of Freed
unfolding given_of columns_of line_of
of_freed = rw no_refusal

pub of_given : {E : Type 0} (numbered : E → ℕ) (call : Call) (a : Answer) → given_of a ≡ answer_of numbered call (Ok a)
unfolding given_of answer_of handed_of
of_given numbered call a = refl

pub of_call : {E : Type 0} (numbered : E → ℕ) (call : Call) (number : ℕ) (a : Result Answer E)
    → number_column number blank ++ (name_of call ++ blank ∷ []) ++ answer_of numbered call a ≡ call_line numbered number call a
unfolding call_line
of_call numbered call number a = simp append_assoc

pub of_columns : (a : Single) (n : ℕ) (lo hi : Float)
    → (48 ∷ blank ∷ []) ++ number_column (region_of a.equation) blank ++ number_column (bit a.verified) blank ++ float_column a.p blank ++ float_column a.t blank
    ++ float_column a.state.v blank ++ float_column a.state.u blank ++ float_column a.state.h blank ++ float_column a.state.s blank
    ++ float_column a.state.cp blank ++ float_column a.state.w blank
    ++ (number_column n blank ++ float_column lo blank ++ float_column hi newline)
    ≡ 48 ∷ line_of (state_columns a ++ decimal_of n ∷ value_of lo ∷ value_of hi ∷ [])
unfolding line_of state_columns column_of
of_columns a n lo hi = simp append_assoc
