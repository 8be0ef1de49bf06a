-- One caller's answers depend on its own posts, collects and withdraws alone: they are those of a desk of one caller (`Solo`), which has no rows, no pointer
-- and no turns, and whose collects are always ready. Assumes nothing.
use mathlib.Core.Path.{◌≡◌, refl, sym, ap, ◌∙◌, subst}
use mathlib.Core.Bool.{Bool, true, false, cond}
use mathlib.Core.Option.{Option, none, some}
use mathlib.Core.List.{List, [], ◌∷◌, ◌++◌, append_assoc}
use Prim.Native.Nat.{ℕ, suc, ◌+◌, ◌-◌, ◌%◌, ◌≤◌, ◌<◌}
use native.Mathlib.Omega.{arith}
use lib.ListN.{get_or, set}
use lib.Seq.{get_or-set_same, get_or-set_other}
use lib.Dec.{eqb}
use lib.Ieee.{Float}
use borrow.Author.Tests.{le-ltb, lt-ltb, eqb-true, eqb-false}
use Rattle.brackets.specs.Brackets.{times}
use Rattle.brackets.specs.declared.Bracket.{Bracket}
use Rattle.ledger.specs.declared.Row.{Row}
use Rattle.ledger.specs.declared.Desk.{Desk}
use Rattle.runs.specs.declared.Outcome.{Outcome}
use Rattle.runs.specs.declared.Answer.{Answer}
use Rattle.std.specs.Prelude.{Result, Ok, Err}
use Rattle.refusals.specs.declared.Refusal.{Refusal}
use Rattle.runs.specs.declared.Answer.TheVariants.{Ticket, Idle, Freed}
use Rattle.ledger.specs.Rows.{blank, row, counted, held, of_caller, vacant, tally, lowest, put}
use Rattle.runs.specs.Model.{new_desk, answers, refuse, Query, query_of, bracket_of, halve, fresh, halved_row, next, past, open_of, emptied, collect_at, withdraw_at, collect_of, withdraw_of}
use Rattle.ledger.proofs.Search.{not_some}
use Rattle.ledger.proofs.Tests.{of_empty, of_other, is_of_lem, held_is, held_of, is_held, held_empty, vacant_is}
use Rattle.runs.proofs.Halved.{of_halved, held_halved}
use Rattle.ledger.proofs.Changes.{tally_same, tally_more, tally_less, lowest_true, none_lowest, some_lowest}
use Rattle.ledger.proofs.Good.{Good, good_sound}
use Rattle.runs.proofs.Tickets.{Seat, seat_open}
use Rattle.runs.specs.Runs.{Call, post, turn, peek, collect, withdraw, step, after_from, after, Entry, history_from, history, keep, asks, own_calls, own_part, enough_for, turns, OpenFor, Patient}
use Rattle.runs.proofs.Posts.{Job, Ruling, against, given, ruling, ruling_at, Granted, seats, on_ruling, post_ruled, ruling_given}
use Rattle.runs.proofs.Kept.{Effect, kept, idled, turned, seated, freed, effect, good_step, good_new, tally_new, count_new, not_yet, held_fresh, seat_free, counts_wide}
use Rattle.runs.proofs.Fair.{Tracked, aged, tracked_step}
use Rattle.runs.proofs.Own.{tracked_fresh, Followed, followed, handed, handed_at, ready, ready_at}
use Rattle.runs.proofs.Posted.{open_posted, after_one}

-- ---- a desk of one caller

-- how many tickets it was given, how many it has open, and the job of each open ticket
record Solo : Type 0 where
  count : ℕ
  opened : ℕ
  jobs : ℕ → Option Job

record Reply : Type 0 where
  next : Solo
  answer : Result Answer Refusal

abbrev assign : ℕ → Option Job → (ℕ → Option Job) → ℕ → Option Job
assign n v f t = cond (eqb t n) v (f t)

abbrev dropped : Solo → ℕ → Solo
dropped m t = record { count = m.count; opened = m.opened - 1; jobs = assign t none m.jobs }

abbrev added : Solo → Job → Solo
added m j = record { count = m.count + 1; opened = suc m.opened; jobs = assign m.count (some j) m.jobs }

-- what a collect of a job that is ready hands out
abbrev final : Job → Answer
final j = handed j.query j.number (times (halve j.query) j.number j.bracket)

abbrev ruled : Solo → Ruling → Reply
ruled m (against n) = record { next = m; answer = Err n }
ruled m (given j) = record { next = added m j; answer = Ok (Ticket m.count) }

abbrev at_job : Solo → ℕ → (Job → Answer) → Option Job → Reply
at_job m t f none = record { next = m; answer = Err Refusal.NotOpen }
at_job m t f (some j) = record { next = dropped m t; answer = Ok (f j) }

solo : Solo → Call → Reply
solo m (post c k p y number) = ruled m (ruling c k p y number m.count m.opened)
solo m turn = record { next = m; answer = Ok Idle }
solo m (peek c t) = record { next = m; answer = Ok Idle }
solo m (collect c t) = at_job m t final (m.jobs t)
solo m (withdraw c t) = at_job m t (λ j. Freed) (m.jobs t)

solos : Solo → List Call → List Entry
solos m [] = []
solos m (x ∷ xs) = record { call = x; answer = (solo m x).answer } ∷ solos (solo m x).next xs

-- ---- the desk is like it

abbrev size : Option Job → ℕ
size none = 0
size (some j) = 1

record Like (c : ℕ) (d : Desk) (m : Solo) : Type 0 where
  counts : counted d c ≡ m.count
  opens : tally (of_caller c) d ≡ m.opened
  here : (t : ℕ) → tally (held c t) d ≡ size (m.jobs t)

-- and each job of the one is in a row of the other
abbrev Tracks : ℕ → Desk → Solo → Type 0
Tracks c d m = (t : ℕ) (j : Job) → m.jobs t ≡ some j → (a : ℕ) × Tracked c t j 0 a d

tracks_step : (c : ℕ) (d : Desk) (m : Solo) (x : Call) → Good d → Tracks c d m → Tracks c (step d x).desk m
tracks_step c d m x g o t j e = let w = o t j e in (aged x w.0, tracked_step c t j 0 w.0 d x g w.1)

-- ---- others' calls, turns and peeks

-- a row that changes in nothing of caller c
like_put : (c : ℕ) (d : Desk) (m : Solo) (j : ℕ) (r : Row) (n : List ℕ) (p : ℕ) → Good d → j < 32 → Like c d m → get_or n c 0 ≡ counted d c
    → of_caller c (row d j) ≡ of_caller c r → ((t : ℕ) → held c t (row d j) ≡ held c t r) → Like c (put d j r n p) m
like_put c d m j r n p g l o a b h = record {
  counts = a ∙ o.counts;
  opens = tally_same (of_caller c) d j r n p g.long l b ∙ o.opens;
  here = λ t. tally_same (held c t) d j r n p g.long l (h t) ∙ o.here t;
}

not_held : (c t : ℕ) (r : Row) → of_caller c r ≡ false → held c t r ≡ false
not_held c t r q = not_some (held c t r) (λ h. let z = held_of c r t h in absurd cc)

like_effect : (c : ℕ) (d e : Desk) (x : Call) (m : Solo) → Good d → asks c x ≡ false → Like c d m → Effect d x e → Like c e m
like_effect c d e x m g n o (kept y h) = o
like_effect c d e x m g n o (idled h) = o
like_effect c d e x m g n o (turned h) =
    let j = (d.pointer + next d) % 32 in
    like_put c d m j (halved_row (row d j)) d.counts (past j) g (omega arith) o refl (sym (of_halved c (row d j))) (λ t. sym (held_halved c (row d j) t))
like_effect c d e x m g n o (seated c' k p y number j w r) =
    let i = lowest vacant d in
    let l = seat_free d g c' k p y number j w in
    let v = fresh c' (counted d c') j.query j.number j.bracket in
    let a = of_empty c (row d i) (vacant_is (row d i) (lowest_true vacant d l)) in
    let b = of_other c v (λ q. eqb-false c' c n q) in
    like_put c d m i v (set d.counts c' (counted d c' + 1)) d.pointer g l o (get_or-set_other d.counts c' c (counted d c' + 1) 0 (λ q. eqb-false c' c n (sym q)))
    (a ∙ sym b) (λ t. not_held c t (row d i) a ∙ sym (not_held c t v b))
like_effect c d e x m g n o (freed y h c' t' w i s) =
    let a = of_other c (row d i) (λ q. eqb-false c' c (sym (w c) ∙ n) (sym (held_is c' (row d i) t' s.has).1 ∙ q)) in
    let b = of_empty c blank refl in
    like_put c d m i blank d.counts d.pointer g s.place o refl (a ∙ sym b) (λ t. not_held c t (row d i) a ∙ sym (not_held c t blank b))

-- ---- the caller's own calls

record Goes (c : ℕ) (d : Desk) (m : Solo) (x : Call) : Type 0 where
  answers_alike : (step d x).answer ≡ (solo m x).answer
  like : Like c (step d x).desk (solo m x).next
  tracks : Tracks c (step d x).desk (solo m x).next

goes : (c : ℕ) (d : Desk) (m : Solo) (x : Call) (o : Outcome) (r : Reply) → step d x ≡ o → solo m x ≡ r → o.answer ≡ r.answer → Like c o.desk r.next
    → Tracks c (step d x).desk r.next → Goes c d m x
goes c d m x o r e f a l t = record {
  answers_alike = ap (λ (v : Outcome). v.answer) e ∙ a ∙ sym (ap (λ (v : Reply). v.answer) f);
  like = subst (λ (v : Desk). Like c v (solo m x).next) (sym (ap (λ (v : Outcome). v.desk) e)) (subst (λ (v : Solo). Like c o.desk v) (sym (ap (λ (v : Reply). v.next) f)) l);
  tracks = subst (λ (v : Solo). Tracks c (step d x).desk v) (sym (ap (λ (v : Reply). v.next) f)) t;
}

-- a post of the caller
like_added : (c k : ℕ) (p y : Float) (number : ℕ) (d : Desk) (m : Solo) (j : Job) → Good d → Like c d m → Granted c k p y number (counted d c) (tally (of_caller c) d) j → Like c (seats d c j) (added m j)
like_added c k p y number d m j g o w = record {
  counts = get_or-set_same d.counts c (counted d c + 1) 0 (counts_wide d g c k p y number j w) ∙ ap (λ (n : ℕ). n + 1) o.counts;
  opens = tally_more (of_caller c) d i v (set d.counts c (counted d c + 1)) d.pointer g.long l (of_empty c (row d i) empty) (is_of_lem c v refl refl) ∙ ap suc o.opens;
  here = λ t. here t (eqb t m.count) refl;
}
  where
    i : ℕ
    i = lowest vacant d

    v : Row
    v = fresh c (counted d c) j.query j.number j.bracket

    l : i < 32
    l = seat_free d g c k p y number j w

    empty : (row d i).filled ≡ false
    empty = vacant_is (row d i) (lowest_true vacant d l)

    here : (t : ℕ) (b : Bool) → eqb t m.count ≡ b → tally (held c t) (seats d c j) ≡ size (cond b (some j) (m.jobs t))
    here t true q =
        let e : counted d c ≡ t = o.counts ∙ sym (eqb-true t m.count q) in
        tally_more (held c t) d i v (set d.counts c (counted d c + 1)) d.pointer g.long l (held_empty c (row d i) t empty) (is_held c v t refl refl e)
        ∙ ap suc (not_yet d g c t (omega arith))
    here t false q =
        let ne : held c t v ≡ false = not_some (held c t v) (λ h. eqb-false t m.count q (sym (held_fresh c t c (counted d c) j h).1 ∙ o.counts)) in
        tally_same (held c t) d i v (set d.counts c (counted d c + 1)) d.pointer g.long l (held_empty c (row d i) t empty ∙ sym ne) ∙ o.here t

tracks_added : (c k : ℕ) (p y : Float) (number : ℕ) (d e : Desk) (m : Solo) (j : Job) → Good d → Like c d m → Granted c k p y number (counted d c) (tally (of_caller c) d) j → e ≡ seats d c j
    → Tracks c e m → Tracks c e (added m j)
tracks_added c k p y number d e m j g o w s h t i q = go (eqb t m.count) refl q
  where
    go : (b : Bool) → eqb t m.count ≡ b → cond b (some j) (m.jobs t) ≡ some i → (a : ℕ) × Tracked c t i 0 a e
    go true n f =
        let same : j ≡ i = cc in (
          0,
          rw s (subst (λ (z : Job). Tracked c t z 0 0 (seats d c j)) same (tracked_fresh d g c k p y number t j w (o.counts ∙ sym (eqb-true t m.count n)))),
        )
    go false n f = h t i f

own_post : (c k : ℕ) (p y : Float) (number : ℕ) (d : Desk) (m : Solo) → Good d → Like c d m → Tracks c d m → Goes c d m (post c k p y number)
unfolding solo
own_post c k p y number d m g o h = go (ruling_at d c k p y number) refl
  where
    by : (r : Ruling) → ruling_at d c k p y number ≡ r → step d (post c k p y number) ≡ on_ruling d c r → solo m (post c k p y number) ≡ ruled m r → Goes c d m (post c k p y number)
    by (against n) e s u = goes c d m (post c k p y number) (refuse n d) (ruled m (against n)) s u refl o (tracks_step c d m (post c k p y number) g h)
    by (given j) e s u =
        let w = ruling_given c k p y number (counted d c) (tally (of_caller c) d) j e in
        goes c d m (post c k p y number) (on_ruling d c (given j)) (ruled m (given j)) s u (ap {B = Result Answer Refusal} (λ (n : ℕ). Ok (Ticket n)) o.counts) (like_added c k p y number d m j g o w)
        (tracks_added c k p y number d (step d (post c k p y number)).desk m j g o w (ap (λ (z : Outcome). z.desk) s) (tracks_step c d m (post c k p y number) g h))

    go : (r : Ruling) → ruling_at d c k p y number ≡ r → Goes c d m (post c k p y number)
    go r e =
        by r e (post_ruled d c k p y number (good_sound d g) ∙ ap (λ (z : Ruling). on_ruling d c z) e)
        (ap (λ (z : Ruling). ruled m z) (rw (o.counts, o.opens) at e))

-- a collect or a withdraw of the caller frees the row
like_dropped : (c t i : ℕ) (d : Desk) (m : Solo) → Good d → Like c d m → Seat d c t i → Like c (emptied d i) (dropped m t)
like_dropped c t i d m g o s = record {
  counts = o.counts;
  opens = omega (arith, o.opens, tally_less (of_caller c) d i blank d.counts d.pointer g.long s.place (held_of c (row d i) t s.has) (of_empty c blank refl));
  here = λ u. here u (eqb u t) refl;
}
  where
    here : (u : ℕ) (b : Bool) → eqb u t ≡ b → tally (held c u) (emptied d i) ≡ size (cond b none (m.jobs u))
    here u true q =
        let e = eqb-true u t q in
        omega (arith, g.rows.once c u, tally_less (held c u) d i blank d.counts d.pointer g.long s.place (rw e s.has) (held_empty c blank u refl))
    here u false q =
        let ne : held c u (row d i) ≡ false = not_some (held c u (row d i)) (λ z.
        eqb-false u t q (sym (held_is c (row d i) u z).2 ∙ (held_is c (row d i) t s.has).2)) in
        tally_same (held c u) d i blank d.counts d.pointer g.long s.place (ne ∙ sym (held_empty c blank u refl)) ∙ o.here u

tracks_dropped : (c t : ℕ) (e : Desk) (m : Solo) → Tracks c e m → Tracks c e (dropped m t)
tracks_dropped c t e m h u i q = go (eqb u t) refl q
  where
    go : (b : Bool) → eqb u t ≡ b → cond b none (m.jobs u) ≡ some i → (a : ℕ) × Tracked c u i 0 a e
    go true n f = absurd cc
    go false n f = h u i f

-- a ticket that is not open, and one that is
not_open : (c t : ℕ) (d : Desk) → Good d → c < 8 → tally (held c t) d ≡ 0 → open_of d c t ≡ Err Refusal.NotOpen
unfolding open_of
not_open c t d g l e = rw (good_sound d g, lt-ltb c 8 l, le-ltb (lowest (held c t) d) 32 (none_lowest (held c t) d e))

found : (c t : ℕ) (d : Desk) → tally (held c t) d ≡ 1 → Seat d c t (lowest (held c t) d)
found c t d e = let n = some_lowest (held c t) d 0 e in record { place = n; has = lowest_true (held c t) d n }

own_withdraw : (c t : ℕ) (d : Desk) (m : Solo) → c < 8 → Good d → Like c d m → Tracks c d m → Goes c d m (withdraw c t)
unfolding solo withdraw_of withdraw_at
own_withdraw c t d m l g o h = go (m.jobs t) refl
  where
    go : (b : Option Job) → m.jobs t ≡ b → Goes c d m (withdraw c t)
    go none e =
        goes c d m (withdraw c t) (refuse Refusal.NotOpen d) (at_job m t (λ j. Freed) none) (rw (not_open c t d g l (o.here t ∙ ap size e))) (rw e) refl o
        (tracks_step c d m (withdraw c t) g h)
    go (some j) e =
        let s = found c t d (o.here t ∙ ap size e) in
        goes c d m (withdraw c t) (answers Freed (emptied d (lowest (held c t) d))) (at_job m t (λ j. Freed) (some j))
        (rw (seat_open d c t (good_sound d g) l (lowest (held c t) d) s)) (rw e) refl (like_dropped c t (lowest (held c t) d) d m g o s)
        (tracks_dropped c t (step d (withdraw c t)).desk m (tracks_step c d m (withdraw c t) g h))

-- what a patient caller knows of a ticket that is open for it
record Waited (c t : ℕ) (d : Desk) : Type 0 where
  kind : ℕ
  p : Float
  y : Float
  age : ℕ
  number : ℕ
  long : enough_for number ≤ age
  follows : Followed c t kind p y number age d

-- a row of the job's query and number, its bracket halved that often, hands out just that
handed_final : (d : Desk) (i : ℕ) (j : Job) → query_of (row d i) ≡ j.query → (row d i).number ≡ j.number
    → bracket_of (row d i) ≡ times (halve j.query) j.number j.bracket → handed_at d i ≡ final j
handed_final d i j q n b =
    ap (λ (v : Query). handed v (row d i).number (bracket_of (row d i))) q ∙ ap (λ (v : ℕ). handed j.query v (bracket_of (row d i))) n
    ∙ ap (λ (v : Bracket). handed j.query j.number v) b

own_collect : (c t : ℕ) (d : Desk) (m : Solo) → c < 8 → Good d → Like c d m → Tracks c d m → (OpenFor c t d → Waited c t d) → Goes c d m (collect c t)
unfolding solo collect_of collect_at
own_collect c t d m l g o h w = go (m.jobs t) refl
  where
    i : ℕ
    i = lowest (held c t) d

    go : (b : Option Job) → m.jobs t ≡ b → Goes c d m (collect c t)
    go none e =
        goes c d m (collect c t) (refuse Refusal.NotOpen d) (at_job m t final none) (rw (not_open c t d g l (o.here t ∙ ap size e))) (rw e) refl o
        (tracks_step c d m (collect c t) g h)
    go (some j) e =
        let s = found c t d (o.here t ∙ ap size e) in
        let open? : OpenFor c t d = (i, s.place, s.has) in
        let v = w open? in
        let r = ready_at c t v.kind v.p v.y v.number v.age d v.follows l open? v.long in
        let z = ready c t v.kind v.p v.y v.number v.age d v.follows i s v.long in
        let f = (h t j e).1.fits i s.place s.has in
        let full : f.more ≡ j.number = omega (arith, f.counts, f.number_posted, (g.rows.each i s.place (held_is c (row d i) t s.has).0).within) in
        let b : bracket_of (row d i) ≡ times (halve j.query) j.number j.bracket = f.halved_to ∙ ap (λ (n : ℕ). times (halve j.query) n j.bracket) full in
        goes c d m (collect c t) (answers (handed_at d i) (emptied d i)) (at_job m t final (some j)) r.1 (rw e)
        (ap {B = Result Answer Refusal} (λ (a : Answer). Ok a) (handed_final d i j f.same f.number_posted b)) (like_dropped c t i d m g o s) (tracks_dropped c t (step d (collect c t)).desk m (tracks_step c d m (collect c t) g h))

-- ---- a whole run

-- what the run has shown when `run` is done
record At-end (c : ℕ) (run : List Call) (d : Desk) (m : Solo) : Type 0 where
  come : after run ≡ d
  good : Good d
  like : Like c d m
  tracks : Tracks c d m

waited : (c t : ℕ) (run rest : List Call) (d : Desk) → after run ≡ d → Patient c (run ++ collect c t ∷ rest) → OpenFor c t d → Waited c t d
waited c t run rest d e w o =
    let o' : OpenFor c t (after run) = subst (λ (v : Desk). OpenFor c t v) (sym e) o in
    let r = open_posted c t run o' in
    record {
      kind = r.kind;
      p = r.p;
      y = r.y;
      number = r.number;
      age = turns r.since;
      long = w run rest t refl o' r;
      follows = subst (λ (v : Desk). Followed c t r.kind r.p r.y r.number (turns r.since) v) (ap (λ (l : List Call). after l) (sym r.posted.0) ∙ e)
          (followed c t r.kind r.p r.y r.number r.pre r.since r.posted.1);
    }

own : (c : ℕ) (run rest : List Call) (d : Desk) (m : Solo) (x : Call) → c < 8 → At-end c run d m → Patient c (run ++ x ∷ rest) → asks c x ≡ true → Goes c d m x
own c run rest d m (post e k p y number) l s w n =
    subst (λ (v : ℕ). Goes c d m (post v k p y number)) (sym (eqb-true e c n)) (own_post c k p y number d m s.good s.like s.tracks)
own c run rest d m turn l s w n = absurd cc
own c run rest d m (peek e t) l s w n = absurd cc
own c run rest d m (collect e t) l s w n =
    let q = eqb-true e c n in
    subst (λ (v : ℕ). Goes c d m (collect v t)) (sym q) (own_collect c t d m l s.good s.like s.tracks
    (waited c t run rest d s.come (subst (λ (v : ℕ). Patient c (run ++ collect v t ∷ rest)) q w)))
own c run rest d m (withdraw e t) l s w n =
    subst (λ (v : ℕ). Goes c d m (withdraw v t)) (sym (eqb-true e c n)) (own_withdraw c t d m l s.good s.like s.tracks)

alone : (c : ℕ) (run rest : List Call) (d : Desk) (m : Solo) → c < 8 → At-end c run d m → Patient c (run ++ rest) → own_part c (history_from d rest) ≡ solos m (own_calls c rest)
unfolding history_from keep solos
alone c run [] d m l s w = refl
alone c run (x ∷ rest) d m l s w = go (asks c x) refl (λ n h. alone c (run ++ x ∷ []) rest (step d x).desk n l h w')
  where
    w' : Patient c ((run ++ x ∷ []) ++ rest)
    w' = rw (append_assoc run (x ∷ []) rest) w

    go : (b : Bool) → asks c x ≡ b
        → ((n : Solo) → At-end c (run ++ x ∷ []) (step d x).desk n → own_part c (history_from (step d x).desk rest) ≡ solos n (own_calls c rest))
        → cond b (record { call = x; answer = (step d x).answer } ∷ own_part c (history_from (step d x).desk rest)) (own_part c (history_from (step d x).desk rest))
        ≡ solos m (cond b (x ∷ own_calls c rest) (own_calls c rest))
    go false q ih = ih m (record {
      come = after_one run d x s.come;
      good = good_step d x s.good;
      like = like_effect c d (step d x).desk x m s.good q s.like (effect d s.good x);
      tracks = tracks_step c d m x s.good s.tracks;
    })
    go true q ih =
        let v = own c run rest d m x l s w q in
        let e = v.answers_alike in
        let f = ih (solo m x).next (record { come = after_one run d x s.come; good = good_step d x s.good; like = v.like; tracks = v.tracks }) in
        rw (e, f)

start : Solo
start = record { count = 0; opened = 0; jobs = λ t. none }

at_start : (c : ℕ) → At-end c [] new_desk start
unfolding start after_from
at_start c = record {
  come = refl;
  good = good_new;
  like = record {
    counts = count_new c;
    opens = tally_new (of_caller c) (of_empty c blank refl);
    here = λ t. tally_new (held c t) (held_empty c blank t refl);
  };
  tracks = λ t j e. absurd cc;
}

pub same_answers : (c : ℕ) (xs ys : List Call) → c < 8 → own_calls c xs ≡ own_calls c ys → Patient c xs → Patient c ys → own_part c (history xs) ≡ own_part c (history ys)
same_answers c xs ys l e u v =
    alone c [] xs new_desk start l (at_start c) u ∙ ap (λ (zs : List Call). solos start zs) e ∙ sym (alone c [] ys new_desk start l (at_start c) v)
