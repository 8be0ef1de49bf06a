-- Turns one after the other: what the loop over them cites. Assumes nothing.
use Prim.Native.Nat.{ℕ, zero, suc, ◌+◌, ◌-◌, ◌≤◌, ◌<◌}
use mathlib.Core.Path.{◌≡◌, refl, ap, ◌∙◌}
use native.Mathlib.Omega.{arith}
use lib.ListN.{replicate}
use Rattle.std.specs.Prelude.{Result, Ok, Err}
use Rattle.refusals.specs.declared.Refusal.{Refusal}
use Rattle.runs.specs.Model.{turn_of}
use Rattle.runs.specs.Runs as Runs
use Rattle.ledger.specs.declared.Desk.{Desk}
use Rattle.runs.specs.declared.Answer.{Answer}
use Rattle.runs.specs.declared.Answer.TheVariants.{Ticket, Halved, Idle, Shown, State, Freed}
use Rattle.turns.specs.declared.Turned.{Turned}
use Rattle.turns.specs.Turns.{after_turn, turned_once, turns_from}

-- of so many turns, one and then the others
pub one_turn : (left : ℕ) (t : Turned) → 0 < left → turns_from left t ≡ turns_from (left - 1) (turned_once t)
unfolding turns_from
one_turn zero t h = absurd (omega arith)
one_turn (suc left) t h = let e : left ≡ suc left - 1 = omega arith in ap (λ (k : ℕ). turns_from k (turned_once t)) e

-- a turn counts at most one
pub halved_more : (t : Turned) (a : Result Answer Refusal) (d : Desk) → (after_turn t a d).halved ≤ t.halved + 1
unfolding after_turn
halved_more t (Err n) d = omega arith
halved_more t (Ok (Ticket n)) d = omega arith
halved_more t (Ok Halved) d = omega arith
halved_more t (Ok Idle) d = omega arith
halved_more t (Ok (Shown n lo hi)) d = omega arith
halved_more t (Ok (State s n lo hi)) d = omega arith
halved_more t (Ok Freed) d = omega arith

pub idle_more : (t : Turned) (a : Result Answer Refusal) (d : Desk) → (after_turn t a d).idle ≤ t.idle + 1
unfolding after_turn
idle_more t (Err n) d = omega arith
idle_more t (Ok (Ticket n)) d = omega arith
idle_more t (Ok Halved) d = omega arith
idle_more t (Ok Idle) d = omega arith
idle_more t (Ok (Shown n lo hi)) d = omega arith
idle_more t (Ok (State s n lo hi)) d = omega arith
idle_more t (Ok Freed) d = omega arith

-- ---- the desk

-- a turn that is counted leaves the desk that it left
desk_left : (t : Turned) (a : Result Answer Refusal) (d : Desk) → (after_turn t a d).desk ≡ d
unfolding after_turn
desk_left t (Err n) d = refl
desk_left t (Ok (Ticket n)) d = refl
desk_left t (Ok Halved) d = refl
desk_left t (Ok Idle) d = refl
desk_left t (Ok (Shown n lo hi)) d = refl
desk_left t (Ok (State s n lo hi)) d = refl
desk_left t (Ok Freed) d = refl

-- the desk afterwards is the one that so many turns leave in a run of the desk's theorems
pub turns_desk : (n : ℕ) (t : Turned) → (turns_from n t).desk ≡ Runs.after_from t.desk (replicate n Runs.turn)
unfolding turns_from Runs.after_from
turns_desk zero t = refl
turns_desk (suc n) t =
    turns_desk n (turned_once t)
    ∙ ap (λ (d : Desk). Runs.after_from d (replicate n Runs.turn)) (desk_left t (turn_of t.desk).answer (turn_of t.desk).desk)
