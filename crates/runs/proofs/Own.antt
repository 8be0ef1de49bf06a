-- The promises of one job, anywhere in a run: what a peek shows, what a collect hands out, and that 32 turns for each halving make it ready. Assumes nothing.
use mathlib.Core.Path.{◌≡◌, refl, sym, ap, ◌∙◌, subst}
use mathlib.Core.Bool.{Bool, true, false, cond}
use mathlib.Core.List.{List, [], ◌∷◌, ◌++◌}
use Prim.Native.Nat.{ℕ, suc, ◌+◌, ◌≤◌, ◌<◌}
use native.Mathlib.Omega.{arith}
use lib.ListN.{set}
use lib.Seq.{get_or-set_same}
use lib.Dec.{ltb}
use lib.Ieee.{Float}
use borrow.Author.Tests.{ltb-true, ltb-false, le-ltb}
use Rattle.equations.specs.declared.Phase.{Phase}
use Rattle.brackets.specs.Brackets.{times}
use Rattle.brackets.specs.declared.Bracket.{Bracket}
use Rattle.std.specs.Prelude.{Result, Ok, Err}
use Rattle.refusals.specs.declared.Refusal.{Refusal}
use Rattle.settle.specs.declared.Settled.{Settled}
use Rattle.settle.specs.Settle.{judged_of}
use Rattle.ledger.specs.declared.Row.{Row}
use Rattle.ledger.specs.declared.Desk.{Desk}
use Rattle.runs.specs.declared.Outcome.{Outcome}
use Rattle.runs.specs.declared.Answer.{Answer}
use Rattle.runs.specs.declared.Answer.TheVariants.{Ticket, Shown, State}
use Rattle.ledger.specs.Rows.{row, counted, held, of_caller, vacant, tally, lowest}
use Rattle.runs.specs.Model.{new_desk, answers, refuse, Query, query_of, bracket_of, halve, settle, fresh, open_of, emptied, peek_at, collect_at, peek_of, collect_of}
use Rattle.settle.proofs.Phases.{phase_kept}
use Rattle.ledger.proofs.Tests.{held_is, is_held}
use Rattle.ledger.proofs.Changes.{row_here, row_each}
use Rattle.ledger.proofs.Good.{Good, good_sound}
use Rattle.runs.proofs.Tickets.{Seat, open_seat, seat_open}
use Rattle.runs.specs.Runs.{Call, post, peek, collect, step, after_from, after, answer_to, is_turn, turns, enough_for, OpenFor, Gives, asked, HalvedTo, JustPosted, SettledTo}
use Rattle.runs.proofs.Round.{ahead_lt}
use Rattle.runs.proofs.Posts.{Job, Ruling, against, given, Granted, ruling_at, seats, post_ruled, ruling_given}
use Rattle.runs.proofs.Kept.{good_step, good_new, was_given, seat_free, counts_wide}
use Rattle.runs.proofs.Fair.{Fits, Tracked, aged, tracked_step}

-- ---- runs

pub good_from : (d : Desk) → Good d → (xs : List Call) → Good (after_from d xs)
unfolding after_from
good_from d g [] = g
good_from d g (x ∷ xs) = good_from (step d x).desk (good_step d x g) xs

pub good_after : (xs : List Call) → Good (after xs)
good_after xs = good_from new_desk good_new xs

pub after_append : (d : Desk) (xs ys : List Call) → after_from d (xs ++ ys) ≡ after_from (after_from d xs) ys
unfolding after_from
after_append d [] ys = refl
after_append d (x ∷ xs) ys = after_append (step d x).desk xs ys

aged_turns : (x : Call) (xs : List Call) (a : ℕ) → aged x a + turns xs ≡ a + turns (x ∷ xs)
unfolding turns
aged_turns x xs a = go (is_turn x)
  where
    go : (b : Bool) → cond b (suc a) a + turns xs ≡ a + cond b (suc (turns xs)) (turns xs)
    go true = omega arith
    go false = omega arith

pub tracked_run : (c t : ℕ) (j : Job) (done : ℕ) (d : Desk) (xs : List Call) (a b : ℕ) → b ≡ a + turns xs → Good d → Tracked c t j done a d → Tracked c t j done b (after_from d xs)
unfolding after_from turns
tracked_run c t j done d [] a b e g o = let q : a ≡ b = omega arith in subst (λ (n : ℕ). Tracked c t j done n d) q o
tracked_run c t j done d (x ∷ xs) a b e g o =
    tracked_run c t j done (step d x).desk xs (aged x a) b (e ∙ sym (aged_turns x xs a)) (good_step d x g) (tracked_step c t j done a d x g o)

-- ---- a post that gets a ticket

pub record Got (d : Desk) (c k : ℕ) (p y : Float) (number t : ℕ) : Type 0 where
  pub job : Job
  pub granted : Granted c k p y number (counted d c) (tally (of_caller c) d) job
  pub own : counted d c ≡ t
  pub leaves : (step d (post c k p y number)).desk ≡ seats d c job

pub got : (d : Desk) → Good d → (c k : ℕ) (p y : Float) (number t : ℕ) → (step d (post c k p y number)).answer ≡ Ok (Ticket t) → Got d c k p y number t
got d g c k p y number t e = go (ruling_at d c k p y number) refl
  where
    go : (r : Ruling) → ruling_at d c k p y number ≡ r → Got d c k p y number t
    go (against n) q = absurd (let f = rw (post_ruled d c k p y number (good_sound d g), q) at e in cc)
    go (given j) q =
        let f = rw (post_ruled d c k p y number (good_sound d g), q) at e in
        record {
          job = j;
          granted = ruling_given c k p y number (counted d c) (tally (of_caller c) d) j q;
          own = cc;
          leaves = rw (post_ruled d c k p y number (good_sound d g), q);
        }

-- the row of a job just posted names its query
query_fresh : (c t : ℕ) (q : Query) (number : ℕ) (b : Bracket) → query_of (fresh c t q number b) ≡ q
query_fresh c t q number b = ap (λ (phase : Phase). asked q.kind phase q.p q.y) (phase_kept q.phase)

-- the count goes one on, and the row that was free holds what was asked
pub post_row : (d : Desk) → Good d → (c k : ℕ) (p y : Float) (number t : ℕ) → (step d (post c k p y number)).answer ≡ Ok (Ticket t)
    → (t ≡ counted d c)
    × (counted (step d (post c k p y number)).desk c ≡ t + 1)
    × ((o : OpenFor c t (step d (post c k p y number)).desk) × JustPosted k p y number (row (step d (post c k p y number)).desk o.0))
unfolding times
post_row d g c k p y number t e =
    rw o.leaves (
      sym o.own,
      get_or-set_same d.counts c (counted d c + 1) 0 (counts_wide d g c k p y number o.job o.granted) ∙ ap (λ (n : ℕ). n + 1) o.own,
      (
        (i, l, rw here (is_held c new t refl refl o.own)),
        rw here (record {
          number_posted = o.granted.number_posted;
          none_yet = refl;
          bracket = record { phase = o.job.query.phase; first = o.job.bracket; judged_to = o.granted.judged_to; halvings = refl };
          query = query_fresh c (counted d c) o.job.query o.job.number o.job.bracket ∙ o.granted.query;
        }),
      ),
    )
  where
    o : Got d c k p y number t
    o = got d g c k p y number t e

    i : ℕ
    i = lowest vacant d

    l : i < 32
    l = seat_free d g c k p y number o.job o.granted

    new : Row
    new = fresh c (counted d c) o.job.query o.job.number o.job.bracket

    here : row (seats d c o.job) i ≡ new
    here = row_here d i new (set d.counts c (counted d c + 1)) d.pointer g.long l

pub tracked_fresh : (d : Desk) → Good d → (c k : ℕ) (p y : Float) (number t : ℕ) (j : Job) → Granted c k p y number (counted d c) (tally (of_caller c) d) j → counted d c ≡ t → Tracked c t j 0 0 (seats d c j)
unfolding times
tracked_fresh d g c k p y number t j w own = record {
  mine = rw (get_or-set_same d.counts c (counted d c + 1) 0 (counts_wide d g c k p y number j w)) (omega arith);
  fits = row_each d (lowest vacant d) (fresh c (counted d c) j.query j.number j.bracket) (set d.counts c (counted d c + 1)) d.pointer
      (λ i r. held c t r ≡ true → Fits j 0 0 d.pointer i r) g.long (seat_free d g c k p y number j w)
      (λ q. record {
        more = 0;
        counts = refl;
        same = query_fresh c (counted d c) j.query j.number j.bracket;
        number_posted = refl;
        halved_to = refl;
        pace = λ s. omega (arith, ahead_lt d.pointer (lowest vacant d));
      })
      (λ i l ne q. absurd (omega (arith, was_given d g c t i l q)));
}

-- what is known of ticket t, posted for (k, p, y) and so many halvings, at the end of a run
pub record Followed (c t k : ℕ) (p y : Float) (number age : ℕ) (d : Desk) : Type 0 where
  pub good : Good d
  pub job : Job
  pub query : job.query ≡ asked k job.query.phase p y
  pub judged_to : judged_of k p y ≡ Ok (record { phase = job.query.phase; lo = job.bracket.lo; hi = job.bracket.hi })
  pub number_posted : job.number ≡ number
  pub tracked : Tracked c t job 0 age d

pub followed : (c t k : ℕ) (p y : Float) (number : ℕ) (pre since : List Call) → answer_to pre (post c k p y number) ≡ Ok (Ticket t) → Followed c t k p y number (turns since) (after (pre ++ post c k p y number ∷ since))
unfolding after_from
followed c t k p y number pre since e =
    rw (after_append new_desk pre (post c k p y number ∷ since)) (record {
      good = good_from (step d (post c k p y number)).desk (good_step d (post c k p y number) g) since;
      job = o.job;
      query = o.granted.query;
      judged_to = o.granted.judged_to;
      number_posted = o.granted.number_posted;
      tracked = tracked_run c t o.job 0 (step d (post c k p y number)).desk since 0 (turns since) (omega arith) (good_step d (post c k p y number) g)
          (rw o.leaves (tracked_fresh d g c k p y number t o.job o.granted o.own));
    })
  where
    d : Desk
    d = after pre

    g : Good d
    g = good_after pre

    o : Got d c k p y number t
    o = got d g c k p y number t e

-- ---- an answer that is no refusal comes from the ticket's row

-- what a collect hands out of a query that so many halvings settled to a bracket, and of row i
abbrev pub handed : Query → ℕ → Bracket → Answer
handed q n b = State (settle q b) n b.lo b.hi

abbrev pub handed_at : Desk → ℕ → Answer
handed_at d i = handed (query_of (row d i)) (row d i).number (bracket_of (row d i))

module _ (d : Desk) (c t : ℕ) where
  pub record Peeked (n : ℕ) (lo hi : Float) : Type 0 where
    pub at : ℕ
    pub seat : Seat d c t at
    pub halvings : (row d at).halvings ≡ n
    pub bracket : bracket_of (row d at) ≡ record { lo = lo; hi = hi }

  pub peeked : (n : ℕ) (lo hi : Float) → (step d (peek c t)).answer ≡ Ok (Shown n lo hi) → Peeked n lo hi
  unfolding peek_of peek_at
  peeked n lo hi e = go (open_of d c t) refl e
    where
      go : (o : Result ℕ Refusal) → open_of d c t ≡ o → (peek_at d o).answer ≡ Ok (Shown n lo hi) → Peeked n lo hi
      go (Err m) q f = absurd cc
      go (Ok i) q f =
          let a : (row d i).lo ≡ lo = cc in
          let b : (row d i).hi ≡ hi = cc in
          record { at = i; seat = open_seat d c t i q; halvings = cc; bracket = rw (a, b) }

  pub record Collected (s : Settled) (n : ℕ) (lo hi : Float) : Type 0 where
    pub at : ℕ
    pub seat : Seat d c t at
    pub ready : (row d at).number ≤ (row d at).halvings
    pub state : settle (query_of (row d at)) (bracket_of (row d at)) ≡ s
    pub number : (row d at).number ≡ n
    pub bracket : bracket_of (row d at) ≡ record { lo = lo; hi = hi }

  pub collected : (s : Settled) (n : ℕ) (lo hi : Float) → (step d (collect c t)).answer ≡ Ok (State s n lo hi) → Collected s n lo hi
  unfolding collect_of collect_at
  collected s n lo hi e = go (open_of d c t) refl e
    where
      done : (i : ℕ) → Seat d c t i → (b : Bool) → ltb (row d i).halvings (row d i).number ≡ b
          → (cond b (refuse Refusal.NotReady d) (answers (handed_at d i) (emptied d i))).answer ≡ Ok (State s n lo hi) → Collected s n lo hi
      done i k true q f = absurd cc
      done i k false q f =
          let a : (row d i).lo ≡ lo = cc in
          let b : (row d i).hi ≡ hi = cc in
          record { at = i; seat = k; ready = ltb-false (row d i).halvings (row d i).number q; state = cc; number = cc; bracket = rw (a, b) }

      go : (o : Result ℕ Refusal) → open_of d c t ≡ o → (collect_at d o).answer ≡ Ok (State s n lo hi) → Collected s n lo hi
      go (Err m) q f = absurd cc
      go (Ok i) q f = done i (open_seat d c t i q) (ltb (row d i).halvings (row d i).number) refl f

-- ---- the promises of one job

module _ (c t k : ℕ) (p y : Float) (number age : ℕ) (d : Desk) (w : Followed c t k p y number age d) where
  shown : (i : ℕ) → Seat d c t i → HalvedTo k p y (row d i).halvings (bracket_of (row d i))
  shown i s = record {
    phase = w.job.query.phase;
    first = w.job.bracket;
    judged_to = w.judged_to;
    halvings =
        let f = w.tracked.fits i s.place s.has in
        let all : f.more ≡ (row d i).halvings = omega (arith, f.counts) in
        f.halved_to ∙ ap (λ (q : Query). times (halve q) f.more w.job.bracket) w.query
        ∙ ap (λ (n : ℕ). times (halve (asked k w.job.query.phase p y)) n w.job.bracket) all;
  }

  -- the row is for as many halvings as were posted for, and has no more
  pub number_kept : (i : ℕ) → Seat d c t i → (row d i).number ≡ number
  number_kept i s = (w.tracked.fits i s.place s.has).number_posted ∙ w.number_posted

  full : (i : ℕ) → Seat d c t i → (row d i).number ≤ (row d i).halvings → (row d i).halvings ≡ (row d i).number
  full i s n = omega (arith, (w.good.rows.each i s.place (held_is c (row d i) t s.has).0).within)

  settled : (i : ℕ) → Seat d c t i → (row d i).number ≤ (row d i).halvings
      → SettledTo k p y (row d i).number (bracket_of (row d i)) (settle (query_of (row d i)) (bracket_of (row d i)))
  unfolding shown
  settled i s n = record {
    halved = subst (λ (m : ℕ). HalvedTo k p y m (bracket_of (row d i))) (full i s n) (shown i s);
    settles = ap (λ (q : Query). settle q (bracket_of (row d i))) ((w.tracked.fits i s.place s.has).same ∙ w.query);
  }

  -- 32 turns for each halving make it ready
  pub ready : (i : ℕ) → Seat d c t i → enough_for number ≤ age → (row d i).number ≤ (row d i).halvings
  ready i s n = go (ltb (row d i).halvings (row d i).number) refl
    where
      go : (b : Bool) → ltb (row d i).halvings (row d i).number ≡ b → (row d i).number ≤ (row d i).halvings
      go false e = ltb-false (row d i).halvings (row d i).number e
      go true e =
          let m = ltb-true (row d i).halvings (row d i).number e in
          let f = w.tracked.fits i s.place s.has in
          absurd (omega (arith, number_kept i s, f.counts, f.pace m))

  pub peek_at_lem : (n : ℕ) (lo hi : Float) → (step d (peek c t)).answer ≡ Ok (Shown n lo hi) → HalvedTo k p y n (record { lo = lo; hi = hi })
  peek_at_lem n lo hi e = let f = peeked d c t n lo hi e in rw (f.halvings, f.bracket) at (shown f.at f.seat)

  pub peek_within : (n : ℕ) (lo hi : Float) → (step d (peek c t)).answer ≡ Ok (Shown n lo hi) → n ≤ number
  peek_within n lo hi e =
      let f = peeked d c t n lo hi e in
      let s = f.seat in
      omega (arith, f.halvings, number_kept f.at s, (w.good.rows.each f.at s.place (held_is c (row d f.at) t s.has).0).within)

  pub collect_at_lem : (s : Settled) (n : ℕ) (lo hi : Float) → (step d (collect c t)).answer ≡ Ok (State s n lo hi)
      → (n ≡ number) × SettledTo k p y n (record { lo = lo; hi = hi }) s
  collect_at_lem s n lo hi e =
      let f = collected d c t s n lo hi e in
      (sym f.number ∙ number_kept f.at f.seat, rw (f.number, f.state, f.bracket) at (settled f.at f.seat f.ready))

  pub ready_at : c < 8 → OpenFor c t d → enough_for number ≤ age
      → Seat d c t (lowest (held c t) d) × (step d (collect c t) ≡ answers (handed_at d (lowest (held c t) d)) (emptied d (lowest (held c t) d)))
  unfolding collect_of collect_at
  ready_at l o n =
      let e = seat_open d c t (good_sound d w.good) l o.0 (record { place = o.1; has = o.2 }) in
      let s = open_seat d c t (lowest (held c t) d) e in
      let r = ready (lowest (held c t) d) s n in
      (s, rw (e, le-ltb (row d (lowest (held c t) d)).halvings (row d (lowest (held c t) d)).number r))

-- 32 turns for each halving after its post an open ticket's collect gives a state
pub collect_ready : (c t k : ℕ) (p y : Float) (number : ℕ) (pre since : List Call) → c < 8 → answer_to pre (post c k p y number) ≡ Ok (Ticket t)
    → OpenFor c t (after (pre ++ post c k p y number ∷ since)) → enough_for number ≤ turns since → Gives (answer_to (pre ++ post c k p y number ∷ since) (collect c t))
collect_ready c t k p y number pre since l e o n =
    let d = after (pre ++ post c k p y number ∷ since) in
    let r = ready_at c t k p y number (turns since) d (followed c t k p y number pre since e) l o n in
    let i = lowest (held c t) d in
    record {
      settled = settle (query_of (row d i)) (bracket_of (row d i));
      number = (row d i).number;
      lo = (row d i).lo;
      hi = (row d i).hi;
      given = ap (λ (v : Outcome). v.answer) r.1;
    }
