-- The theorems on runs: what one model gets does not go by what others do. Every word of them is defined in specs/Runs, specs/Answers and specs/Refusals,
-- over the definitions that the contracts of the desk's calls cite. Assumes nothing.
use mathlib.Core.Path.{◌≡◌, refl, ap, subst}
use mathlib.Core.Bool.{true, false}
use mathlib.Core.List.{List, [], ◌∷◌, ◌++◌}
use Prim.Native.Nat.{ℕ, ◌+◌, ◌*◌, ◌≤◌, ◌<◌}
use native.Mathlib.Omega.{arith}
use lib.ListN.{length}
use lib.Ieee.{Float}
use Rattle.brackets.specs.declared.Bracket.{Bracket}
use Rattle.settle.specs.declared.Settled.{Settled}
use Rattle.ledger.specs.declared.Desk.{Desk}
use Rattle.runs.specs.declared.Answer.{Answer}
use Rattle.std.specs.Prelude.{Result, Ok, Err}
use Rattle.refusals.specs.declared.Refusal.{Refusal}
use Rattle.refusals.specs.Refusals.{number_in}
use Rattle.runs.specs.declared.Answer.TheVariants.{Ticket, Halved, Idle, Shown, State}
use Rattle.ledger.specs.Rows.{blank, row, counted, held, of_caller, vacant, unfinished, tally, lowest, sound}
use Rattle.runs.specs.Answers.{whole, kelvin, state, values_of, Tells}
use Rattle.runs.specs.Model.{new_desk, query_of, settle, emptied}
use Rattle.ledger.proofs.Tests.{unfinished_is}
use Rattle.ledger.proofs.Changes.{row_here}
use Rattle.ledger.proofs.Good.{Good, good_sound, sound_good, free_row}
use Rattle.runs.specs.Runs.{Call, post, turn, peek, collect, withdraw, step, after_from, after, answer_to, Entry, history_from, history, own_calls, own_part, enough, enough_for, turns, OpenFor, Patient, PatientForAny, Gives, CollectsGive, asked, HalvedTo, JustPosted, SettledTo, Encloses, Empty, Origin, goes_to, received, HalvedOnce, HalvedSince}
use Rattle.runs.specs.Refusals.{first_of, tests_of}
use Rattle.runs.proofs.Refusals.{keeps, in_order}
use Rattle.runs.proofs.Rows.{busy, idle, turn_row, pass_row, peek_row, early_row, collect_row, withdraw_row}
use Rattle.runs.proofs.Kept.{row_new, count_new, good_new, good_step}
use Rattle.runs.proofs.Own.{good_from, good_after, post_row, got, followed, peeked, collected, peek_at_lem, peek_within, collect_at_lem, collect_ready}
use Rattle.runs.proofs.Posted.{open_posted, patient_collects}
use Rattle.runs.proofs.Once.{one_post}
use Rattle.runs.proofs.Same.{same_answers}
use Rattle.runs.proofs.Received.{peek_received}
use Rattle.runs.proofs.Enclosed.{encloses}
use Rattle.runs.proofs.Paced.{halved_since}

-- Two runs from a new desk in which one model posts, collects and withdraws the same things in the same order, both patient: all its answers are the same
-- in both, tickets included, and each of its collects that names an open ticket gives a state.
pub same_for_one : (c : ℕ) (xs ys : List Call) → c < 8 → own_calls c xs ≡ own_calls c ys → Patient c xs → Patient c ys
    → (own_part c (history xs) ≡ own_part c (history ys)) × CollectsGive c xs × CollectsGive c ys
same_for_one c xs ys l e u v = (same_answers c xs ys l e u v, patient_collects c xs l u, patient_collects c ys l v)

-- A number for which a ticket was given is 10 to 50.
pub number_named : (c t : ℕ) (run : List Call) (o : Origin c t run) → (10 ≤ o.number) × (o.number ≤ 50)
number_named c t run o =
    let g = (got (after o.pre) (good_after o.pre) c o.kind o.p o.y o.number t o.posted.1).granted in (g.number_low, g.number_high)

-- So who waits 1,600 turns, 50 for each of 32 rows, is patient whatever was posted for.
pub waits_for_any : (c : ℕ) (xs : List Call) → PatientForAny c xs → Patient c xs
waits_for_any c xs w before rest t e o r = omega (arith, w before rest t e o r, (number_named c t before r).1)

-- And so the request's own sentence: two runs from a new desk in which one model posts, collects and withdraws the same things in the same order, and in both
-- each of its collects of an open ticket comes at least 1,600 turns after that ticket's post: all its answers are the same in both, tickets included, and
-- each of these collects gives a state.
pub same_for_one_in_1600 : (c : ℕ) (xs ys : List Call) → c < 8 → own_calls c xs ≡ own_calls c ys → PatientForAny c xs → PatientForAny c ys
    → (own_part c (history xs) ≡ own_part c (history ys)) × CollectsGive c xs × CollectsGive c ys
same_for_one_in_1600 c xs ys l e u v = same_for_one c xs ys l e (waits_for_any c xs u) (waits_for_any c ys v)

-- Patience can always be met: 32 · n turns after its post for n halvings, whoever else calls what, an open ticket's collect gives a state.
pub ready_in_time : (c t kind : ℕ) (p y : Float) (number : ℕ) (pre since : List Call) → c < 8 → answer_to pre (post c kind p y number) ≡ Ok (Ticket t)
    → OpenFor c t (after (pre ++ post c kind p y number ∷ since)) → enough_for number ≤ turns since → Gives (answer_to (pre ++ post c kind p y number ∷ since) (collect c t))
ready_in_time = collect_ready

-- So 1,600 turns make any job ready.
pub ready_in_1600 : (c t kind : ℕ) (p y : Float) (number : ℕ) (pre since : List Call) → c < 8 → answer_to pre (post c kind p y number) ≡ Ok (Ticket t)
    → OpenFor c t (after (pre ++ post c kind p y number ∷ since)) → enough ≤ turns since → Gives (answer_to (pre ++ post c kind p y number ∷ since) (collect c t))
ready_in_1600 c t kind p y number pre since l e o m =
    let run = pre ++ post c kind p y number ∷ since in
    let origin : Origin c t run = record { pre = pre; since = since; kind = kind; p = p; y = y; number = number; posted = (refl, e) } in
    ready_in_time c t kind p y number pre since l e o (omega (arith, (number_named c t run origin).1))

-- ---- a ticket's own query

-- A ticket that is open for a caller was given to it by a post of the run,
pub ticket_posted : (c t : ℕ) (run : List Call) → OpenFor c t (after run) → Origin c t run
ticket_posted = open_posted

-- and by one only: two posts of a run that gave a caller the same ticket are one, at the same place of the run.
pub ticket_once : (c t : ℕ) (run : List Call) (a b : Origin c t run) → (a.pre ≡ b.pre) × (a.kind ≡ b.kind) × (a.p ≡ b.p) × (a.y ≡ b.y) × (a.number ≡ b.number) × (a.since ≡ b.since)
ticket_once = one_post

-- Each state collected, in any run, was posted for, and is that of n halvings of the bracket of the query that was posted, n the number that its post named; the
-- number and the bracket handed out with it are that n and what the halvings left.
pub state_collected : (c t : ℕ) (run : List Call) (s : Settled) (n : ℕ) (lo hi : Float) → answer_to run (collect c t) ≡ Ok (State s n lo hi)
    → Origin c t run × ((o : Origin c t run) → (n ≡ o.number) × SettledTo o.kind o.p o.y n (record { lo = lo; hi = hi }) s)
state_collected c t run s n lo hi e =
    let f = collected (after run) c t s n lo hi e in (
      open_posted c t run (f.at, f.seat.place, f.seat.has),
      λ o.
          collect_at_lem c t o.kind o.p o.y o.number _ (after (o.pre ++ post c o.kind o.p o.y o.number ∷ o.since))
          (followed c t o.kind o.p o.y o.number o.pre o.since o.posted.1) s n lo hi
          (subst (λ (b : List Call). answer_to b (collect c t) ≡ Ok (State s n lo hi)) o.posted.0 e),
    )

-- A peek after n halvings shows the bracket that n halvings give of that query's; and n is the number of turns that the ticket's row received since its
-- post, at most the number posted.
pub bracket_shown : (c t : ℕ) (run : List Call) (n : ℕ) (lo hi : Float) → answer_to run (peek c t) ≡ Ok (Shown n lo hi)
    → Origin c t run
    × ((o : Origin c t run)
    → HalvedTo o.kind o.p o.y n (record { lo = lo; hi = hi })
    × (n ≡ received c t (after (o.pre ++ post c o.kind o.p o.y o.number ∷ [])) o.since)
    × (n ≤ o.number))
bracket_shown c t run n lo hi e =
    let f = peeked (after run) c t n lo hi e in (
      open_posted c t run (f.at, f.seat.place, f.seat.has),
      λ o.
          let d = after (o.pre ++ post c o.kind o.p o.y o.number ∷ o.since) in
          let q = subst (λ (b : List Call). answer_to b (peek c t) ≡ Ok (Shown n lo hi)) o.posted.0 e in
          let w = followed c t o.kind o.p o.y o.number o.pre o.since o.posted.1 in (
            peek_at_lem c t o.kind o.p o.y o.number _ d w n lo hi q,
            peek_received c t o.kind o.p o.y o.number o.pre o.since n lo hi o.posted.1 q,
            peek_within c t o.kind o.p o.y o.number _ d w n lo hi q,
          ),
    )

-- What a bracket says that a peek shows or a collect hands out: after any number of halvings lo is the query's first lo or y(p,lo) < y asked, and hi is the first
-- hi or not y(p,hi) < y asked.
pub bracket_keeps : (kind : ℕ) (p y : Float) (n : ℕ) (b : Bracket) (h : HalvedTo kind p y n b) → Encloses (asked kind h.phase p y) h.first b
bracket_keeps kind p y n b h = rw h.halvings (encloses (asked kind h.phase p y) h.first n)

-- ---- the two ways to say what a call of a run got

-- `history` and `answer_to` agree: the call x of a run got the answer that it gets after what came before it.
pub history_at : (d : Desk) (before rest : List Call) (x : Call)
    → history_from d (before ++ x ∷ rest) ≡ history_from d before ++ record { call = x; answer = (step (after_from d before) x).answer } ∷ history_from (step (after_from d before) x).desk rest
unfolding history_from after_from
history_at d [] rest x = refl
history_at d (z ∷ before) rest x = ap {B = List Entry} (λ l. record { call = z; answer = (step d z).answer } ∷ l) (history_at (step d z).desk before rest x)

-- ---- on every sound desk

-- A new desk has every row empty and every number in it 0.
blank_empty : Empty blank
blank_empty = record { unfilled = refl; whole = (refl, refl, refl, refl, refl, refl); values = (refl, refl, refl, refl) }

pub new_empty : ((i : ℕ) → i < 32 → Empty (row new_desk i)) × ((c : ℕ) → counted new_desk c ≡ 0) × (new_desk.pointer ≡ 0)
unfolding new_desk
new_empty = (λ i l. rw (row_new i l) blank_empty, count_new, refl)

-- It is sound, and each call on a sound desk of 32 rows and 8 counts leaves a sound one.
pub new_sound : sound new_desk ≡ true
new_sound = good_sound new_desk good_new

-- So what is said here of sound desks is said of the desk after every run.
pub run_sound : (run : List Call) → (length (after run).rows ≡ 32) × (length (after run).counts ≡ 8) × (sound (after run) ≡ true)
run_sound run = let g = good_after run in (g.long, g.wide, good_sound (after run) g)

module _ (d : Desk) (long : length d.rows ≡ 32) (wide : length d.counts ≡ 8) (ok : sound d ≡ true) where
  good : Good d
  good = sound_good d long wide ok

  pub stays_sound : (x : Call) → sound (step d x).desk ≡ true
  stays_sound x = good_sound (step d x).desk (good_step d x good)

  -- Whatever is called, a filled row's number is 10 to 50, and its count never passes its own number.
  pub count_within : (xs : List Call) (i : ℕ) → i < 32 → (row (after_from d xs) i).filled ≡ true
      → (10 ≤ (row (after_from d xs) i).number) × ((row (after_from d xs) i).number ≤ 50) × ((row (after_from d xs) i).halvings ≤ (row (after_from d xs) i).number)
  count_within xs i l f = let r = (good_from d good xs).rows.each i l f in (r.number_low, r.number_high, r.within)

  -- A freed row is as in a new desk.
  pub freed_empty : (i : ℕ) → i < 32 → Empty (row (emptied d i) i)
  freed_empty i l = rw (row_here d i blank d.counts d.pointer good.long l) blank_empty

  -- A caller with fewer than four open finds a row free.
  pub row_is_free : (c : ℕ) → c < 8 → tally (of_caller c) d < 4 → lowest vacant d < 32
  row_is_free c l h = free_row d good.rows c l h

  -- A post that gets a ticket gets its caller's own count, which goes one on, and a row of the desk that it leaves holds what was asked.
  pub post_by_row : (c kind : ℕ) (p y : Float) (number t : ℕ) → (step d (post c kind p y number)).answer ≡ Ok (Ticket t)
      → (t ≡ counted d c)
      × (counted (step d (post c kind p y number)).desk c ≡ t + 1)
      × ((o : OpenFor c t (step d (post c kind p y number)).desk) × JustPosted kind p y number (row (step d (post c kind p y number)).desk o.0))
  post_by_row = post_row d good

  -- A turn halves where some row has halvings to go, and where none has it says so and leaves the desk as it was.
  pub turn_halves : (i : ℕ) → i < 32 → unfinished (row d i) ≡ true → (step d turn).answer ≡ Ok Halved
  turn_halves = busy d good

  pub turn_idle : ((i : ℕ) → i < 32 → unfinished (row d i) ≡ false) → ((step d turn).answer ≡ Ok Idle) × ((step d turn).desk ≡ d)
  turn_idle = idle d good

  -- The calls that name a ticket, and the turn that comes to its row, go by what that row holds, however it came there. Where row i is that of caller c's
  -- ticket t:
  module _ (c t i : ℕ) (place : i < 32) (has : held c t (row d i) ≡ true) where
    -- the turn that comes to it says halved, halves its own bracket, once, and counts one; any other leaves it as it is;
    pub turn_by_row : goes_to c t d turn ≡ true → ((step d turn).answer ≡ Ok Halved) × HalvedOnce (row d i) (row (step d turn).desk i)
    turn_by_row = turn_row d good c t i place has

    pub turn_elsewhere : goes_to c t d turn ≡ false → row (step d turn).desk i ≡ row d i
    turn_elsewhere = pass_row d good c t i place has

    -- a peek shows its halvings, lo and hi;
    pub peek_by_row : Tells (step d (peek c t)) 0 (whole (row d i).halvings ∷ kelvin (row d i).lo ∷ kelvin (row d i).hi ∷ []) d
    peek_by_row = peek_row d good c t i place has

    -- a collect before its number of halvings is refused; at that number it hands out the state of its lo and hi, the number, lo and hi, and frees it;
    pub early_by_row : (row d i).halvings < (row d i).number → Tells (step d (collect c t)) 12 [] d
    early_by_row = early_row d good c t i place has

    pub collect_by_row : (row d i).halvings ≡ (row d i).number
        → Tells (step d (collect c t)) 0
        (state (settle (query_of (row d i)) (record { lo = (row d i).lo; hi = (row d i).hi })) ∷ whole (row d i).number ∷ kelvin (row d i).lo ∷ kelvin (row d i).hi ∷ [])
        (emptied d i)
    collect_by_row h = collect_row d good c t i place has (omega arith)

    -- a withdraw frees it, ready or not.
    pub withdraw_by_row : Tells (step d (withdraw c t)) 0 [] (emptied d i)
    withdraw_by_row = withdraw_row d good c t i place has

    -- Whatever is called from there on: while the ticket is open its row keeps its query and its number, and holds n halvings of the bracket that it held; and
    -- 32 · k turns bring k of them, as long as that many are to go.
    pub halved_in_turn : (xs : List Call) (j : ℕ) → j < 32 → held c t (row (after_from d xs) j) ≡ true
        → (n : ℕ) × HalvedSince (row d i) n (row (after_from d xs) j) × ((k : ℕ) → 32 * k ≤ turns xs → (row d i).halvings + k ≤ (row d i).number → k ≤ n)
    halved_in_turn = halved_since d good c t i place has

    -- So an unfinished row whose ticket stays open gets a halving in any 32 turns in a row.
    pub one_in_32 : (xs : List Call) (j : ℕ) → j < 32 → held c t (row (after_from d xs) j) ≡ true → unfinished (row d i) ≡ true → 32 ≤ turns xs
        → (row d i).halvings < (row (after_from d xs) j).halvings
    one_in_32 xs j l h u m =
        let o = halved_in_turn xs j l h in
        let one = o.2 1 (omega arith) (omega (arith, (unfinished_is (row d i) u).1)) in
        omega (arith, o.1.more)

-- ---- on every desk

-- A refused call leaves the desk as it was.
pub refused_keeps : (d : Desk) (x : Call) (n : Refusal) → (step d x).answer ≡ Err n → (step d x).desk ≡ d
refused_keeps = keeps

-- So a call that answers a number other than 0 says that number only: it hands out nothing and leaves the desk as it was.
pub numbered_keeps : (d : Desk) (x : Call) → 0 < number_in (step d x).answer → Tells (step d x) (number_in (step d x).answer) [] d
numbered_keeps d x l = go (step d x).answer refl l
  where
    go : (a : Result Answer Refusal) → (step d x).answer ≡ a → 0 < number_in a → Tells (step d x) (number_in (step d x).answer) [] d
    go (Err n) e h = record { number = refl; values = ap values_of e; leaves = refused_keeps d x n e }
    go (Ok a) e h = absurd (omega arith)

-- The number is that of the first test that fails, in the order of specs/Refusals.
pub refused_in_order : (d : Desk) (x : Call) → number_in (step d x).answer ≡ first_of (tests_of d x)
refused_in_order = in_order
