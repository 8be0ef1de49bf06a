-- What is said of runs of the desk. Definitions only; `step` is made of the definitions that the contracts of the desk's calls cite, and of nothing else.
-- A model is one caller number, which no other model uses. The theorems are in proofs/Demand.antt.
use Rattle.std.specs.Prelude.{◌≡◌, ◌⊎◌, Bool, true, false, Result, Ok, cond, ◌&&◌, List, [], ◌∷◌, ◌++◌, ℕ, zero, suc, ◌+◌, ◌*◌, ◌%◌, ◌≤◌, ◌<◌, eqb, ltb, Float}
use Rattle.equations.specs.declared.Phase.{Phase}
use Rattle.brackets.specs.Brackets.{times}
use Rattle.brackets.specs.declared.Bracket.{Bracket}
use Rattle.refusals.specs.declared.Refusal.{Refusal}
use Rattle.settle.specs.declared.Settled.{Settled}
use Rattle.settle.specs.Settle.{judged_of, below_of}
use Rattle.ledger.specs.declared.Row.{Row}
use Rattle.ledger.specs.declared.Desk.{Desk}
use Rattle.runs.specs.declared.Answer.{Answer}
use Rattle.runs.specs.declared.Answer.TheVariants.{Ticket, State}
use Rattle.runs.specs.declared.Outcome.{Outcome}
use Rattle.ledger.specs.Search.{bit}
use Rattle.ledger.specs.Rows.{nought, row, held}
use Rattle.runs.specs.Model.{new_desk, next, Query, query_of, halve, settle, post_of, turn_of, peek_of, collect_of, withdraw_of}

-- ---- calls and runs

-- a call of the desk: who posts, peeks, collects or withdraws, and what, a post for how many halvings; a turn is no one's
pub data Call : Type 0 where
  post : (caller kind : ℕ) (p y : Float) (number : ℕ) → Call
  turn : Call
  peek collect withdraw : (caller ticket : ℕ) → Call

-- what it answers, and the desk that it leaves
abbrev pub step : Desk → Call → Outcome
step d (post c kind p y number) = post_of d c kind p y number
step d turn = turn_of d
step d (peek c t) = peek_of d c t
step d (collect c t) = collect_of d c t
step d (withdraw c t) = withdraw_of d c t

-- A run is a list of calls, each given the desk as the call before left it. The desk after a run that starts at d, and after one from a new desk:
unfoldable pub after_from : Desk → List Call → Desk
after_from d [] = d
after_from d (x ∷ xs) = after_from (step d x).desk xs

abbrev pub after : List Call → Desk
after xs = after_from new_desk xs

-- what a call answers at the end of a run from a new desk
abbrev pub answer_to : List Call → Call → Result Answer Refusal
answer_to xs x = (step (after xs) x).answer

-- a call of a run, with the answer that it got; a run's calls with their answers
pub record Entry : Type 0 where
  pub call : Call
  pub answer : Result Answer Refusal

unfoldable pub history_from : Desk → List Call → List Entry
history_from d [] = []
history_from d (x ∷ xs) = record { call = x; answer = (step d x).answer } ∷ history_from (step d x).desk xs

abbrev pub history : List Call → List Entry
history xs = history_from new_desk xs

-- ---- a model's own calls

-- the members of a list that pass a test, in their order
unfoldable pub keep : {A : Type 0} → (A → Bool) → List A → List A
keep f [] = []
keep f (x ∷ xs) = cond (f x) (x ∷ keep f xs) (keep f xs)

-- a post, collect or withdraw of caller c
abbrev pub asks : ℕ → Call → Bool
asks c (post e kind p y number) = eqb e c
asks c turn = false
asks c (peek e t) = false
asks c (collect e t) = eqb e c
asks c (withdraw e t) = eqb e c

-- in a run, what caller c posted, collected and withdrew; in a history, the same with the answers
abbrev pub own_calls : ℕ → List Call → List Call
own_calls c xs = keep (asks c) xs

abbrev pub own_part : ℕ → List Entry → List Entry
own_part c h = keep (λ e. asks c e.call) h

-- ---- patience

-- turns enough for a job of n halvings: n for each of 32 rows
abbrev pub enough_for : ℕ → ℕ
enough_for n = 32 * n

-- turns enough for any job: 50 for each of 32 rows
abbrev pub enough : ℕ
enough = 1600

abbrev pub is_turn : Call → Bool
is_turn (post c kind p y number) = false
is_turn turn = true
is_turn (peek c t) = false
is_turn (collect c t) = false
is_turn (withdraw c t) = false

-- how many turns a run has
unfoldable pub turns : List Call → ℕ
turns [] = zero
turns (x ∷ xs) = cond (is_turn x) (suc (turns xs)) (turns xs)

-- ticket t is open for caller c: a filled row has both
abbrev pub OpenFor : ℕ → ℕ → Desk → Type 0
OpenFor c t d = (i : ℕ) × (i < 32) × (held c t (row d i) ≡ true)

-- the run xs is `pre`, then caller c's post of (kind, p, y) for so many halvings, which got ticket t, then `since`
abbrev pub Posted : ℕ → ℕ → ℕ → Float → Float → ℕ → List Call → List Call → List Call → Type 0
Posted c t kind p y number pre since xs = (xs ≡ pre ++ post c kind p y number ∷ since) × (answer_to pre (post c kind p y number) ≡ Ok (Ticket t))

-- a post that gave caller c ticket t in a run; proofs/Demand shows that there is no other (`ticket_once`)
pub record Origin (c t : ℕ) (run : List Call) : Type 0 where
  pub pre : List Call
  pub since : List Call
  pub kind : ℕ
  pub p : Float
  pub y : Float
  pub number : ℕ
  pub posted : Posted c t kind p y number pre since run

-- each collect of caller c that names a ticket then open for it comes at least 32 · n turns after that ticket's post, n the number posted
abbrev pub Patient : ℕ → List Call → Type 0
Patient c xs =
    (before rest : List Call) (t : ℕ) → xs ≡ before ++ collect c t ∷ rest → OpenFor c t (after before) → (o : Origin c t before)
    → enough_for o.number ≤ turns o.since

-- each collect of caller c that names a ticket then open for it comes at least 1,600 turns after that ticket's post, whatever the number
abbrev pub PatientForAny : ℕ → List Call → Type 0
PatientForAny c xs =
    (before rest : List Call) (t : ℕ) → xs ≡ before ++ collect c t ∷ rest → OpenFor c t (after before) → (o : Origin c t before) → enough ≤ turns o.since

-- an answer that gives a state, and all that it hands out with it
pub record Gives (a : Result Answer Refusal) : Type 0 where
  pub settled : Settled
  pub number : ℕ
  pub lo : Float
  pub hi : Float
  pub given : a ≡ Ok (State settled number lo hi)

-- each collect of caller c that names a ticket then open for it gives a state
abbrev pub CollectsGive : ℕ → List Call → Type 0
CollectsGive c xs =
    (before rest : List Call) (t : ℕ) → xs ≡ before ++ collect c t ∷ rest → OpenFor c t (after before) → Gives (answer_to before (collect c t))

-- ---- what a job is worth

abbrev pub asked : ℕ → Phase → Float → Float → Query
asked kind phase p y = record { kind = kind; phase = phase; p = p; y = y }

-- b is the bracket that n halvings give of the query's own, which judging it gave
pub record HalvedTo (kind : ℕ) (p y : Float) (n : ℕ) (b : Bracket) : Type 0 where
  pub phase : Phase
  pub first : Bracket
  pub judged_to : judged_of kind p y ≡ Ok (record { phase = phase; lo = first.lo; hi = first.hi })
  pub halvings : b ≡ times (halve (asked kind phase p y)) n first

-- r is the row of a query just posted for so many halvings: none done, and lo and hi as judging the query gave them
pub record JustPosted (kind : ℕ) (p y : Float) (number : ℕ) (r : Row) : Type 0 where
  pub number_posted : r.number ≡ number
  pub none_yet : r.halvings ≡ 0
  pub bracket : HalvedTo kind p y 0 (record { lo = r.lo; hi = r.hi })
  pub query : query_of r ≡ asked kind bracket.phase p y

-- s is the state of n halvings of the query's own bracket, which they left as b
pub record SettledTo (kind : ℕ) (p y : Float) (n : ℕ) (b : Bracket) (s : Settled) : Type 0 where
  pub halved : HalvedTo kind p y n b
  pub settles : s ≡ settle (asked kind halved.phase p y) b

-- y(p,t) < y asked
abbrev pub below : Query → Float → Bool
below q t = below_of q.kind q.phase q.p q.y t

-- lo is the first lo or y(p,lo) < y asked, and hi is the first hi or not y(p,hi) < y asked
pub record Encloses (q : Query) (first b : Bracket) : Type 0 where
  pub low : (b.lo ≡ first.lo) ⊎ (below q b.lo ≡ true)
  pub high : (b.hi ≡ first.hi) ⊎ (below q b.hi ≡ false)

-- r is as in a new desk: empty, and every number in it 0
pub record Empty (r : Row) : Type 0 where
  pub unfilled : r.filled ≡ false
  pub whole : (r.caller ≡ 0) × (r.ticket ≡ 0) × (r.kind ≡ 0) × (r.region ≡ 0) × (r.number ≡ 0) × (r.halvings ≡ 0)
  pub values : (r.p ≡ nought) × (r.y ≡ nought) × (r.lo ≡ nought) × (r.hi ≡ nought)

-- ---- which turns a row received, and what one does

-- the call x on the desk d is a turn that goes to the row of caller c's ticket t
abbrev pub goes_to : ℕ → ℕ → Desk → Call → Bool
goes_to c t d x = is_turn x && (ltb (next d) 32 && held c t (row d ((d.pointer + next d) % 32)))

-- how many calls of a run that starts at d do
unfoldable pub received : ℕ → ℕ → Desk → List Call → ℕ
received c t d [] = 0
received c t d (x ∷ xs) = bit (goes_to c t d x) + received c t (step d x).desk xs

-- s is the row r after one halving of the bracket that r holds: the same caller's ticket, the same query, in the same region, for the same number
pub record HalvedOnce (r s : Row) : Type 0 where
  pub same_ticket : (s.filled ≡ r.filled) × (s.caller ≡ r.caller) × (s.ticket ≡ r.ticket)
  pub same_region : s.region ≡ r.region
  pub same_query : query_of s ≡ query_of r
  pub same_number : s.number ≡ r.number
  pub one_more : s.halvings ≡ r.halvings + 1
  pub own_bracket : record { lo = s.lo; hi = s.hi } ≡ halve (query_of r) (record { lo = r.lo; hi = r.hi })

-- s is the row r after n halvings of the bracket that r holds: the same query, for the same number
pub record HalvedSince (r : Row) (n : ℕ) (s : Row) : Type 0 where
  pub same_query : query_of s ≡ query_of r
  pub same_number : s.number ≡ r.number
  pub more : s.halvings ≡ r.halvings + n
  pub own_bracket : record { lo = s.lo; hi = s.hi } ≡ times (halve (query_of r)) n (record { lo = r.lo; hi = r.hi })
