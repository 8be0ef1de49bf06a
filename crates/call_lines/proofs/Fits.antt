-- The line of a call is short: it fits a room of 265 bytes. Assumes nothing.
use Prim.Native.Nat.{ℕ, ◌≤◌}
use native.Mathlib.Omega.{arith}
use mathlib.Core.List.{[], ◌∷◌, ◌++◌}
use lib.Ieee.{Float}
use lib.ListN.{length, length-append, replicate}
use Rattle.text.specs.Texts.{decimal_of, value_of, column_of}
use Rattle.std.proofs.Common.{Some, Result, Ok, Err}
use Rattle.text.proofs.Lengths.{digits, column_short}
use Rattle.equations.specs.Equations.{region_of}
use Rattle.states.specs.declared.Single.{Single}
use Rattle.ledger.specs.Search.{bit}
use Rattle.runs.specs.declared.Answer.{Answer}
use Rattle.runs.specs.declared.Answer.TheVariants.{Ticket, Halved, Idle, Shown, State, Freed}
use Rattle.records.specs.declared.Call.{Call}
use Rattle.records.specs.declared.Call.TheVariants.{Post, Peek, Collect, Withdraw}
use Rattle.call_lines.specs.Lines.{state_columns, width_of, handed_of, line_of, name_of, given_of, answer_of, call_line}
use Rattle.call_lines.proofs.Pieces.{of_ticket, of_bracket, of_state, of_halved, of_idle, of_freed, of_given}

name_short : (call : Call) → length (name_of call) ≤ 8
unfolding name_of
name_short (Post caller kind p y number) = omega arith
name_short (Peek caller ticket) = omega arith
name_short (Collect caller ticket) = omega arith
name_short (Withdraw caller ticket) = omega arith

dashes_short : (call : Call) → length (line_of (replicate (width_of call) (45 ∷ []))) ≤ 27
unfolding width_of line_of
dashes_short (Post caller kind p y number) = omega arith
dashes_short (Peek caller ticket) = omega arith
dashes_short (Collect caller ticket) = omega arith
dashes_short (Withdraw caller ticket) = omega arith

state_short : (a : Single) (n : ℕ) (lo hi : Float) → length (line_of (state_columns a ++ decimal_of n ∷ value_of lo ∷ value_of hi ∷ [])) ≤ 234
unfolding state_columns line_of column_of
state_short a n lo hi =
    simp length-append
    (omega (
      arith,
      digits (region_of a.equation),
      digits (bit a.verified),
      column_short (Some a.p),
      column_short (Some a.t),
      column_short (Some a.state.v),
      column_short (Some a.state.u),
      column_short (Some a.state.h),
      column_short (Some a.state.s),
      column_short (Some a.state.cp),
      column_short (Some a.state.w),
      digits n,
      column_short (Some lo),
      column_short (Some hi),
    ))

refused_short : {E : Type 0} (numbered : E → ℕ) (call : Call) (refusal : E) → length (answer_of numbered call (Err refusal)) ≤ 47
unfolding answer_of handed_of
refused_short numbered call refusal = simp length-append (omega (arith, digits (numbered refusal), dashes_short call))

given_short : (a : Answer) → length (given_of a) ≤ 235
given_short (Ticket t) = rw (← of_ticket t) (simp length-append (omega (arith, digits t)))
given_short Halved = rw (← of_halved) (omega arith)
given_short Idle = rw (← of_idle) (omega arith)
given_short (Shown n lo hi) =
    rw (← of_bracket n lo hi) (simp length-append (omega (arith, digits n, column_short (Some lo), column_short (Some hi))))
given_short (State s n lo hi) = rw (← of_state s n lo hi) (omega (arith, state_short s.single n lo hi))
given_short Freed = rw (← of_freed) (omega arith)

answer_short : {E : Type 0} (numbered : E → ℕ) (call : Call) (a : Result Answer E) → length (answer_of numbered call a) ≤ 235
answer_short numbered call (Err refusal) = omega (arith, refused_short numbered call refusal)
answer_short numbered call (Ok a) = rw (← of_given numbered call a) (given_short a)

pub call_short : {E : Type 0} (numbered : E → ℕ) (number : ℕ) (call : Call) (a : Result Answer E) → length (call_line numbered number call a) ≤ 265
unfolding call_line
call_short numbered number call a = simp length-append (omega (arith, digits number, name_short call, answer_short numbered call a))
