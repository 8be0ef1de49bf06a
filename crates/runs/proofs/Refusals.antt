-- The number of a refusal is that of the first test that fails, and a refused call leaves the desk as it was: each call by its definition, test by test.
-- Assumes nothing.
use mathlib.Core.Path.{◌≡◌, refl}
use mathlib.Core.Bool.{Bool, true, false, cond, not, ◌&&◌}
use mathlib.Core.List.{[], ◌∷◌}
use Prim.Native.Nat.{ℕ, ◌+◌, ◌%◌}
use lib.Dec.{ltb}
use lib.Ieee.{Float}
use Rattle.std.specs.Prelude.{Result, Ok, Err}
use Rattle.refusals.specs.declared.Refusal.{Refusal}
use Rattle.refusals.specs.Refusals.{number_of, number_in}
use Rattle.settle.specs.declared.Judged.{Judged}
use Rattle.settle.specs.declared.Settled.{Settled}
use Rattle.settle.specs.Settle.{judged_of}
use Rattle.ledger.specs.declared.Desk.{Desk}
use Rattle.runs.specs.declared.Answer.TheVariants.{Ticket, Halved, Idle, State}
use Rattle.ledger.specs.Rows.{most, row, counted, held, of_caller, tally, lowest, between, nameable, sound}
use Rattle.runs.specs.Model.{answers, refuse, admitted, judged_post, known, post_of, next, turned_at, turn_of, open_of, emptied, peek_at, collect_at, withdraw_at, peek_of, collect_of, withdraw_of}
use Rattle.runs.specs.Runs.{Call, post, turn, peek, collect, withdraw, step}
use Rattle.runs.specs.Refusals.{unless, first_of, judged, tests_of}

-- ---- the order

-- a ticket's row is looked for after two tests
ticket_order : (d : Desk) (c t : ℕ) (u v w : Bool) (rest : ℕ) (f : Result ℕ Refusal → ℕ) → ((n : Refusal) → f (Err n) ≡ number_of n) → f (Ok (lowest (held c t) d)) ≡ rest
    → f (cond u (cond v (cond w (Ok (lowest (held c t) d)) (Err Refusal.NotOpen)) (Err Refusal.UnknownNumber)) (Err Refusal.UnsoundDesk)) ≡ cond u (cond v (cond w rest 11) 9) 15
ticket_order d c t false v w rest f h e = h Refusal.UnsoundDesk
ticket_order d c t true false w rest f h e = h Refusal.UnknownNumber
ticket_order d c t true true false rest f h e = h Refusal.NotOpen
ticket_order d c t true true true rest f h e = e

pub in_order : (d : Desk) (x : Call) → number_in (step d x).answer ≡ first_of (tests_of d x)
unfolding known nameable post_of judged_post admitted turn_of open_of peek_of collect_of withdraw_of peek_at collect_at withdraw_at first_of
in_order d (post c k p y number) =
    go (sound d) (ltb c 8) (between 2 3 k) (between 10 50 number) (judged_of k p y) (ltb (counted d c) most) refl (ltb (tally (of_caller c) d) 4) refl
  where
    go : (u v w x : Bool) (j : Result Judged Refusal) (a : Bool) → ltb (counted d c) most ≡ a → (b : Bool) → ltb (tally (of_caller c) d) 4 ≡ b
        → number_in (cond u (cond (v && (w && x)) (judged_post d c k p y number j) (refuse Refusal.UnknownNumber d)) (refuse Refusal.UnsoundDesk d)).answer
        ≡ first_of (unless u 15 ∷ unless v 9 ∷ unless w 9 ∷ unless x 9 ∷ judged j ∷ unless (ltb (counted d c) most) 13 ∷ unless (ltb (tally (of_caller c) d) 4) 10 ∷ [])
    go false v w x j a ha b hb = refl
    go true false w x j a ha b hb = refl
    go true true false x j a ha b hb = refl
    go true true true false j a ha b hb = refl
    go true true true true (Err n) a ha b hb = refl
    go true true true true (Ok j) false ha b hb = rw ha refl
    go true true true true (Ok j) true ha false hb = rw (ha, hb) refl
    go true true true true (Ok j) true ha true hb = rw (ha, hb) refl
in_order d turn = go (sound d) (ltb (next d) 32)
  where
    go : (u v : Bool) → number_in (cond u (cond v (answers Halved (turned_at d ((d.pointer + next d) % 32))) (answers Idle d)) (refuse Refusal.UnsoundDesk d)).answer ≡ first_of (unless u 15 ∷ [])
    go false v = refl
    go true false = refl
    go true true = refl
in_order d (peek c t) = ticket_order d c t (sound d) (ltb c 8) (ltb (lowest (held c t) d) 32) 0 (λ o. number_in (peek_at d o).answer) (λ n. refl) refl
in_order d (collect c t) =
    ticket_order d c t (sound d) (ltb c 8) (ltb (lowest (held c t) d) 32) _ (λ o. number_in (collect_at d o).answer) (λ n. refl)
    (ready (ltb (row d (lowest (held c t) d)).halvings (row d (lowest (held c t) d)).number) _ _ _ _)
  where
    ready : (b : Bool) (s : Settled) (n : ℕ) (lo hi : Float)
        → number_in (cond b (refuse Refusal.NotReady d) (answers (State s n lo hi) (emptied d (lowest (held c t) d)))).answer ≡ cond (not b) 0 12
    ready true s n lo hi = refl
    ready false s n lo hi = refl
in_order d (withdraw c t) = ticket_order d c t (sound d) (ltb c 8) (ltb (lowest (held c t) d) 32) 0 (λ o. number_in (withdraw_at d o).answer) (λ n. refl) refl

-- ---- the desk is kept

pub keeps : (d : Desk) (x : Call) (n : Refusal) → (step d x).answer ≡ Err n → (step d x).desk ≡ d
unfolding post_of judged_post admitted turn_of peek_of collect_of withdraw_of peek_at collect_at withdraw_at
keeps d (post c k p y number) n = go (sound d) (known c k number) (judged_of k p y)
  where
    admits : (u v : Bool) (t : ℕ) (e : Desk) → (cond u (cond v (answers (Ticket t) e) (refuse Refusal.FourOpen d)) (refuse Refusal.TicketsSpent d)).answer ≡ Err n
        → (cond u (cond v (answers (Ticket t) e) (refuse Refusal.FourOpen d)) (refuse Refusal.TicketsSpent d)).desk ≡ d
    admits false v t e q = refl
    admits true false t e q = refl
    admits true true t e q = absurd cc

    go : (u v : Bool) (j : Result Judged Refusal) → (cond u (cond v (judged_post d c k p y number j) (refuse Refusal.UnknownNumber d)) (refuse Refusal.UnsoundDesk d)).answer ≡ Err n
        → (cond u (cond v (judged_post d c k p y number j) (refuse Refusal.UnknownNumber d)) (refuse Refusal.UnsoundDesk d)).desk ≡ d
    go false v j e = refl
    go true false j e = refl
    go true true (Err m) e = refl
    go true true (Ok j) e = admits (ltb (counted d c) most) (ltb (tally (of_caller c) d) 4) _ _ e
keeps d turn n = go (sound d) (ltb (next d) 32)
  where
    go : (u v : Bool) → (cond u (cond v (answers Halved (turned_at d ((d.pointer + next d) % 32))) (answers Idle d)) (refuse Refusal.UnsoundDesk d)).answer ≡ Err n
        → (cond u (cond v (answers Halved (turned_at d ((d.pointer + next d) % 32))) (answers Idle d)) (refuse Refusal.UnsoundDesk d)).desk ≡ d
    go false v e = refl
    go true true e = absurd cc
    go true false e = refl
keeps d (peek c t) n = go (open_of d c t)
  where
    go : (o : Result ℕ Refusal) → (peek_at d o).answer ≡ Err n → (peek_at d o).desk ≡ d
    go (Err m) e = refl
    go (Ok i) e = refl
keeps d (collect c t) n = go (open_of d c t)
  where
    done : (i : ℕ) (b : Bool) (v : Settled) (m : ℕ) (lo hi : Float) → (cond b (refuse Refusal.NotReady d) (answers (State v m lo hi) (emptied d i))).answer ≡ Err n
        → (cond b (refuse Refusal.NotReady d) (answers (State v m lo hi) (emptied d i))).desk ≡ d
    done i true v m lo hi e = refl
    done i false v m lo hi e = absurd cc

    go : (o : Result ℕ Refusal) → (collect_at d o).answer ≡ Err n → (collect_at d o).desk ≡ d
    go (Err m) e = refl
    go (Ok i) e = done i (ltb (row d i).halvings (row d i).number) _ _ _ _ e
keeps d (withdraw c t) n = go (open_of d c t)
  where
    go : (o : Result ℕ Refusal) → (withdraw_at d o).answer ≡ Err n → (withdraw_at d o).desk ≡ d
    go (Err m) e = refl
    go (Ok i) e = absurd cc
