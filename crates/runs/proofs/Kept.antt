-- What a call may do to a sound desk (`Effect`), and that each leaves it sound. Assumes nothing.
use mathlib.Core.Path.{◌≡◌, refl, ap, ◌∙◌}
use mathlib.Core.Bool.{Bool, true, false, cond}
use mathlib.Core.List.{List}
use Prim.Native.Nat.{ℕ, ◌+◌, ◌%◌, ◌≤◌, ◌<◌}
use native.Mathlib.Omega.{arith}
use lib.ListN.{get_or, set, length, length-set, length-replicate, get_or-replicate}
use lib.Seq.{get_or-set_same}
use lib.Dec.{ltb, eqb}
use lib.Ieee.{Float}
use borrow.Author.Tests.{ltb-true, ltb-false}
use Rattle.settle.proofs.Phases.{phase_region}
use Rattle.ledger.specs.declared.Row.{Row}
use Rattle.ledger.specs.declared.Desk.{Desk}
use Rattle.runs.specs.declared.Answer.{Answer}
use Rattle.std.specs.Prelude.{Result, Ok, Err}
use Rattle.refusals.specs.declared.Refusal.{Refusal}
use Rattle.ledger.specs.Search.{bit}
use Rattle.ledger.specs.Rows.{most, blank, row, counted, held, of_caller, vacant, unfinished, tally, lowest, put}
use Rattle.runs.specs.Model.{new_desk, answers, refuse, fresh, halved_row, next, past, turned_at, turn_of, open_of, emptied, peek_at, collect_at, withdraw_at, peek_of, collect_of, withdraw_of}
use Rattle.ledger.proofs.Search.{not_some, count_zero}
use Rattle.ledger.proofs.Tests.{of_is, of_empty, held_is, held_empty, unfinished_is, Right}
use Rattle.runs.proofs.Halved.{of_halved, held_halved}
use Rattle.ledger.proofs.Changes.{row_each, tally_put, counts_each, onward_true}
use Rattle.ledger.proofs.Good.{Good, good_sound, free_row}
use Rattle.ledger.proofs.Lists.{noughts}
use Rattle.runs.proofs.Tickets.{Seat, open_seat}
use Rattle.runs.specs.Runs.{Call, post, turn, peek, collect, withdraw, step, asks, is_turn}
use Rattle.runs.proofs.Posts.{Job, Ruling, against, given, Granted, ruling_at, seats, on_ruling, post_ruled, ruling_given}

-- ---- each change keeps a sound desk sound

record Keeps (d : Desk) (j : ℕ) (r : Row) (n : List ℕ) : Type 0 where
  place : j < 32
  size : length n ≡ 8
  least : (c : ℕ) → c < 8 → get_or n c 0 ≤ most
  grows : (c : ℕ) → c < 8 → counted d c ≤ get_or n c 0
  fits : r.filled ≡ true → Right n r
  one : (c t : ℕ) → tally (held c t) d + bit (held c t r) ≤ 1 + bit (held c t (row d j))
  four : (c : ℕ) → tally (of_caller c) d + bit (of_caller c r) ≤ 4 + bit (of_caller c (row d j))

good_put : (d : Desk) → Good d → (j : ℕ) (r : Row) (n : List ℕ) (p : ℕ) → Keeps d j r n → p < 32 → Good (put d j r n p)
good_put d g j r n p k l = record {
  long = length-set d.rows j r ∙ g.long;
  wide = k.size;
  points = l;
  few = k.least;
  rows = record {
    each = row_each d j r n p (λ i x. x.filled ≡ true → Right n x) g.long k.place k.fits (λ i m q e.
        let o = g.rows.each i m e in
        record {
          known = o.known;
          given = let z = k.grows (row d i).caller o.known in omega (arith, o.given);
          region_low = o.region_low;
          region_high = o.region_high;
          kind_low = o.kind_low;
          kind_high = o.kind_high;
          number_low = o.number_low;
          number_high = o.number_high;
          within = o.within;
        });
    once = λ c t. omega (arith, k.one c t, tally_put (held c t) d j r n p g.long k.place);
    four = λ c. omega (arith, k.four c, tally_put (of_caller c) d j r n p g.long k.place);
  };
}

good_emptied : (d : Desk) → Good d → (i : ℕ) → i < 32 → Good (emptied d i)
good_emptied d g i l = good_put d g i blank d.counts d.pointer (record {
  place = l;
  size = g.wide;
  least = g.few;
  grows = λ c m. omega arith;
  fits = λ e. absurd cc;
  one = λ c t. rw (held_empty c blank t refl) (omega (arith, g.rows.once c t));
  four = λ c. rw (of_empty c blank refl) (omega (arith, g.rows.four c));
}) g.points

good_turned : (d : Desk) → Good d → (j : ℕ) → j < 32 → unfinished (row d j) ≡ true → Good (turned_at d j)
unfolding halved_row
good_turned d g j l u = good_put d g j (halved_row (row d j)) d.counts (past j) (record {
  place = l;
  size = g.wide;
  least = g.few;
  grows = λ c m. omega arith;
  fits = λ e.
      let o = g.rows.each j l e in
      let s = (unfinished_is (row d j) u).1 in
      record {
        known = o.known;
        given = o.given;
        region_low = o.region_low;
        region_high = o.region_high;
        kind_low = o.kind_low;
        kind_high = o.kind_high;
        number_low = o.number_low;
        number_high = o.number_high;
        within = omega arith;
      };
  one = λ c t. omega (arith, g.rows.once c t, ap bit (held_halved c (row d j) t));
  four = λ c. omega (arith, g.rows.four c, ap bit (of_halved c (row d j)));
}) (omega arith)

-- an open ticket was given
pub was_given : (d : Desk) → Good d → (c t i : ℕ) → i < 32 → held c t (row d i) ≡ true → t < counted d c
was_given d g c t i l e =
    let o = held_is c (row d i) t e in
    let s = (g.rows.each i l o.0).given in
    let q : counted d (row d i).caller ≡ counted d c = ap (λ (x : ℕ). counted d x) o.1 in
    omega arith

pub not_yet : (d : Desk) → Good d → (c t : ℕ) → counted d c ≤ t → tally (held c t) d ≡ 0
unfolding tally
not_yet d g c t h = count_zero (λ i. held c t (row d i)) 32 (λ i l. not_some (held c t (row d i)) (λ e.
    absurd (omega (arith, was_given d g c t i l e))))

pub held_fresh : (c t e n : ℕ) (j : Job) → held c t (fresh e n j.query j.number j.bracket) ≡ true → (e ≡ c) × (n ≡ t)
held_fresh c t e n j h = let o = held_is c (fresh e n j.query j.number j.bracket) t h in (o.1, o.2)

module _ (d : Desk) (g : Good d) (c k : ℕ) (p y : Float) (number : ℕ) (j : Job) (o : Granted c k p y number (counted d c) (tally (of_caller c) d) j) where
  -- the row that a granted post takes
  pub seat_free : lowest vacant d < 32
  seat_free = free_row d g.rows c o.who o.spare

  pub counts_wide : c < length d.counts
  counts_wide = omega (arith, g.wide, o.who)

  abbrev new : Row
  new = fresh c (counted d c) j.query j.number j.bracket

  once : (e t : ℕ) (b : Bool) → held e t new ≡ b → tally (held e t) d + bit b ≤ 1 + bit (held e t (row d (lowest vacant d)))
  once e t false h = omega (arith, g.rows.once e t)
  once e t true h =
      let s = held_fresh e t c (counted d c) j h in
      let q : counted d c ≡ counted d e = ap (λ (x : ℕ). counted d x) s.0 in
      omega (arith, not_yet d g e t (omega arith))

  four : (e : ℕ) (b : Bool) → of_caller e new ≡ b → tally (of_caller e) d + bit b ≤ 4 + bit (of_caller e (row d (lowest vacant d)))
  four e false h = omega (arith, g.rows.four e)
  four e true h =
      let q = ap (λ (x : ℕ). tally (of_caller x) d) (of_is e new h).1 in
      omega (arith, o.spare)

  good_seated : Good (seats d c j)
  good_seated =
      good_put d g (lowest vacant d) new (set d.counts c (counted d c + 1)) d.pointer (record {
        place = seat_free;
        size = length-set d.counts c (counted d c + 1) ∙ g.wide;
        least = counts_each d.counts c (counted d c + 1) (λ i x. i < 8 → x ≤ most) counts_wide (λ _. omega (arith, o.room)) (λ i q m. g.few i m);
        grows = counts_each d.counts c (counted d c + 1) (λ i x. i < 8 → counted d i ≤ x) counts_wide (λ _. omega arith) (λ i q m. omega arith);
        fits = λ e.
            let r = phase_region j.query.phase in
            let q : j.query.kind ≡ k = ap (λ x. x.kind) o.query in
            record {
              known = o.who;
              given = rw (get_or-set_same d.counts c (counted d c + 1) 0 counts_wide) (omega arith);
              region_low = r.0;
              region_high = r.1;
              kind_low = omega (arith, o.kind_low);
              kind_high = omega (arith, o.kind_high);
              number_low = omega (arith, o.number_posted, o.number_low);
              number_high = omega (arith, o.number_posted, o.number_high);
              within = omega arith;
            };
        one = λ e t. once e t (held e t new) refl;
        four = λ e. four e (of_caller e new) refl;
      }) g.points

-- ---- what a call may do

pub data Effect (d : Desk) : Call → Desk → Type 0 where
  kept : (x : Call) → is_turn x ≡ false → Effect d x d
  idled : 32 ≤ next d → Effect d turn d
  turned : next d < 32 → Effect d turn (turned_at d ((d.pointer + next d) % 32))
  seated : (c k : ℕ) (p y : Float) (number : ℕ) (j : Job) → Granted c k p y number (counted d c) (tally (of_caller c) d) j → ruling_at d c k p y number ≡ given j → Effect d (post c k p y number) (seats d c j)
  freed : (x : Call) → is_turn x ≡ false → (e t : ℕ) → ((c : ℕ) → asks c x ≡ eqb e c) → (i : ℕ) → Seat d e t i → Effect d x (emptied d i)

pub effect : (d : Desk) → Good d → (x : Call) → Effect d x (step d x).desk
unfolding turn_of peek_of collect_of withdraw_of peek_at collect_at withdraw_at
effect d g (post c k p y number) = rw (post_ruled d c k p y number (good_sound d g)) (go (ruling_at d c k p y number) refl)
  where
    go : (r : Ruling) → ruling_at d c k p y number ≡ r → Effect d (post c k p y number) (on_ruling d c r).desk
    go (against n) e = kept (post c k p y number) refl
    go (given j) e = seated c k p y number j (ruling_given c k p y number (counted d c) (tally (of_caller c) d) j e) e
effect d g turn = rw (good_sound d g) (go (ltb (next d) 32) refl)
  where
    go : (b : Bool) → ltb (next d) 32 ≡ b → Effect d turn (cond b (answers Answer.Halved (turned_at d ((d.pointer + next d) % 32))) (answers Answer.Idle d)).desk
    go true e = turned (ltb-true (next d) 32 e)
    go false e = idled (ltb-false (next d) 32 e)
effect d g (peek c t) = go (open_of d c t)
  where
    go : (o : Result ℕ Refusal) → Effect d (peek c t) (peek_at d o).desk
    go (Err n) = kept (peek c t) refl
    go (Ok i) = kept (peek c t) refl
effect d g (collect c t) = go (open_of d c t) refl
  where
    done : (i : ℕ) → Seat d c t i → (b : Bool) (a : Answer) → Effect d (collect c t) (cond b (refuse Refusal.NotReady d) (answers a (emptied d i))).desk
    done i s true a = kept (collect c t) refl
    done i s false a = freed (collect c t) refl c t (λ _. refl) i s

    go : (o : Result ℕ Refusal) → open_of d c t ≡ o → Effect d (collect c t) (collect_at d o).desk
    go (Err n) e = kept (collect c t) refl
    go (Ok i) e = done i (open_seat d c t i e) (ltb (row d i).halvings (row d i).number) _
effect d g (withdraw c t) = go (open_of d c t) refl
  where
    go : (o : Result ℕ Refusal) → open_of d c t ≡ o → Effect d (withdraw c t) (withdraw_at d o).desk
    go (Err n) e = kept (withdraw c t) refl
    go (Ok i) e = freed (withdraw c t) refl c t (λ _. refl) i (open_seat d c t i e)

good_effect : (d e : Desk) (x : Call) → Good d → Effect d x e → Good e
good_effect d e x g (kept y h) = g
good_effect d e x g (idled h) = g
good_effect d e x g (turned h) = good_turned d g ((d.pointer + next d) % 32) (omega arith) (onward_true unfinished d d.pointer h)
good_effect d e x g (seated c k p y number j o q) = good_seated d g c k p y number j o
good_effect d e x g (freed y q c t a i s) = good_emptied d g i s.place

pub good_step : (d : Desk) (x : Call) → Good d → Good (step d x).desk
good_step d x g = good_effect d (step d x).desk x g (effect d g x)

-- ---- a new desk

pub row_new : (i : ℕ) → i < 32 → row new_desk i ≡ blank
unfolding row new_desk
row_new i l = get_or-replicate 32 i blank blank l

pub tally_new : (f : Row → Bool) → f blank ≡ false → tally f new_desk ≡ 0
unfolding tally
tally_new f h = count_zero (λ i. f (row new_desk i)) 32 (λ i l. rw (row_new i l) h)

pub count_new : (c : ℕ) → counted new_desk c ≡ 0
unfolding new_desk
count_new c = noughts 8 c

pub good_new : Good new_desk
unfolding new_desk
good_new = record {
  long = length-replicate 32 blank;
  wide = length-replicate {A = ℕ} 8 0;
  points = omega arith;
  few = λ c l. omega (arith, count_new c);
  rows = record {
    each = λ i l e. absurd (let q = rw (row_new i l) at e in cc);
    once = λ c t. omega (arith, tally_new (held c t) (held_empty c blank t refl));
    four = λ c. omega (arith, tally_new (of_caller c) (of_empty c blank refl));
  };
}
