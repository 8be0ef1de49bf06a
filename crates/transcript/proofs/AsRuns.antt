-- What `replay` plays is a run in the sense of the desk's theorems (runs specs/Runs.antt): before each record of a run in which no desk is given, the desk
-- is the one that the calls of the records before it leave (`desk_is_after`). Assumes nothing.
use Prim.Native.Nat.{ℕ, zero, suc, ◌<◌}
use native.Mathlib.Omega.{arith}
use mathlib.Core.Path.{◌≡◌, refl, sym, ap, ◌∙◌}
use mathlib.Core.List.{List, [], ◌∷◌, ◌++◌}
use lib.ListN.{replicate}
use Rattle.std.proofs.Common.{Option, Some, None}
use Rattle.runs.specs.Runs as Runs
use Rattle.ledger.specs.declared.Desk.{Desk}
use Rattle.runs.proofs.Own.{after_append}
use Rattle.records.specs.declared.Deed.{Deed}
use Rattle.turns.proofs.TurnLaws.{turns_desk}
use Rattle.transcript.specs.Steps.{call_of, desk_after, standing, deed_at}

-- ---- one record

-- the calls that a record makes
abbrev pub calls_of : Option Deed → List Runs.Call
calls_of (Some (Deed.Asked call)) = call_of call ∷ []
calls_of (Some (Deed.Turns n)) = replicate n Runs.turn
calls_of (Some Deed.Given) = []
calls_of (Some Deed.Shown) = []
calls_of None = []

-- it gives no desk
abbrev pub Calls : Option Deed → Type 0
Calls deed = deed ≡ Some Deed.Given → ⊥

record_run : (rest : List ℕ) (d : Desk) (deed : Option Deed) → Calls deed → desk_after rest d deed ≡ Runs.after_from d (calls_of deed)
unfolding desk_after Runs.after_from
record_run rest d (Some (Deed.Asked call)) h = refl
record_run rest d (Some (Deed.Turns n)) h = turns_desk n _
record_run rest d (Some Deed.Given) h = absurd (h refl)
record_run rest d (Some Deed.Shown) h = refl
record_run rest d None h = refl

-- ---- a run

-- the calls of the first n records
unfoldable pub calls_in : List ℕ → ℕ → List Runs.Call
calls_in run zero = []
calls_in run (suc n) = calls_in run n ++ calls_of (deed_at run n)

pub desk_is_after : (run : List ℕ) (n : ℕ) → ((k : ℕ) → k < n → Calls (deed_at run k)) → (standing run n).desk ≡ Runs.after (calls_in run n)
unfolding standing calls_in Runs.after_from
desk_is_after run zero h = refl
desk_is_after run (suc n) h =
    let d = (standing run n).desk in
    let before = desk_is_after run n (λ k l. h k (omega arith)) in
    record_run (standing run n).rest d (deed_at run n) (h n (omega arith))
    ∙ ap (λ (e : Desk). Runs.after_from e (calls_of (deed_at run n))) before
    ∙ sym (after_append _ (calls_in run n) (calls_of (deed_at run n)))
