-- The one pass over the rows that tells whether they are right. After i rows it has noted, for each caller, the tickets of its filled rows, four places to a
-- caller, of which the others are free; so a ticket is in a caller's first three places just as often as it is in the rows passed, as long as these have no more
-- than three of the caller. Assumes nothing.
use mathlib.Core.Path.{◌≡◌, refl, sym, ap, ◌∙◌}
use mathlib.Core.Logic.{◌≢◌}
use mathlib.Core.Bool.{Bool, true, false}
use mathlib.Core.List.{List, [], ◌∷◌}
use Prim.Native.Nat.{ℕ, zero, suc, ◌+◌, ◌*◌, ◌≤◌, ◌<◌}
use native.Mathlib.Omega.{arith}
use native.Mathlib.Decide.{ℕ_discrete}
use lib.ListN.{get_or, set, length, length-set, replicate, length-replicate, get_or-replicate}
use lib.Seq.{get_or-set_same, get_or-set_other}
use lib.Dec.{eqb}
use mir.Syntax.{w64}
use mir.Val.{Fits}
use borrow.Author.Tests.{ltb-true, ltb-false, eq-eqb, ne_eqb}
use Rattle.ledger.specs.declared.Row.{Row}
use Rattle.ledger.specs.declared.Desk.{Desk}
use Rattle.ledger.specs.Search.{bit, count}
use Rattle.ledger.specs.Noted.{often, among}
use Rattle.ledger.specs.Rows.{most, row, held, of_caller, tally, row_right, counts_right, rows_right}
use Rattle.ledger.proofs.Search.{not_some, count_same, count_change, count_zero, count_yes, count_no, count_part}
use Rattle.ledger.proofs.Tests.{of_empty, of_other, is_of_lem, held_empty, held_other, held_later, is_held, Right, is_right}
use Rattle.ledger.proofs.Good.{good_rows, rows_good, all_four, counts_few}

-- the first place of each caller
abbrev pub firsts : List ℕ
firsts = 0 ∷ 1 ∷ 2 ∷ 3 ∷ 4 ∷ 5 ∷ 6 ∷ 7 ∷ []

first_place : (c : ℕ) → c < 8 → get_or firsts c 0 ≡ c
first_place zero l = refl
first_place (suc zero) l = refl
first_place (suc (suc zero)) l = refl
first_place (suc (suc (suc zero))) l = refl
first_place (suc (suc (suc (suc zero)))) l = refl
first_place (suc (suc (suc (suc (suc zero))))) l = refl
first_place (suc (suc (suc (suc (suc (suc zero)))))) l = refl
first_place (suc (suc (suc (suc (suc (suc (suc zero))))))) l = refl
first_place (suc (suc (suc (suc (suc (suc (suc (suc c)))))))) l = absurd (omega arith)

-- what is known when i rows were passed: a place at or behind a caller's next one is free
pub record Passed (d : Desk) (i : ℕ) (tickets next : List ℕ) : Type 0 where
  pub so_far : i ≤ 32
  pub places : length tickets ≡ 32
  pub callers : length next ≡ 8
  pub each : (k : ℕ) → k < i → (row d k).filled ≡ true → Right d.counts (row d k)
  pub once : (c t : ℕ) → count (λ k. held c t (row d k)) i ≤ 1
  pub four : (c : ℕ) → c < 8 → count (λ k. of_caller c (row d k)) i ≤ 4
  pub next_all : (c : ℕ) → c < 8 → get_or next c 0 ≡ c + 8 * count (λ k. of_caller c (row d k)) i
  pub free : (c k : ℕ) → c < 8 → k < 4 → count (λ j. of_caller c (row d j)) i ≤ k → get_or tickets (c + 8 * k) 0 ≡ most
  pub noted_all : (c t : ℕ) → c < 8 → t < most → count (λ k. of_caller c (row d k)) i ≤ 3 → often t tickets c ≡ count (λ k. held c t (row d k)) i

-- no ticket is noted where all places are free
often_none : (t c : ℕ) → c < 8 → t < most → often t (replicate 32 most) c ≡ 0
unfolding often
often_none t c l h = count_zero _ 3 (λ k m. rw (get_or-replicate {A = ℕ} 32 (c + 8 * k) most 0 (omega arith)) (ne_eqb most t (λ q. absurd (omega arith))))

-- nothing passed, nothing noted
pub passed_none : (d : Desk) → Passed d 0 (replicate 32 most) firsts
unfolding count
passed_none d = record {
  so_far = omega arith;
  places = length-replicate {A = ℕ} 32 most;
  callers = refl;
  each = λ k l f. absurd (omega arith);
  once = λ c t. omega arith;
  four = λ c l. omega arith;
  next_all = λ c l. omega (arith, first_place c l);
  free = λ c k l m h. get_or-replicate {A = ℕ} 32 (c + 8 * k) most 0 (omega arith);
  noted_all = λ c t l h _. often_none t c l h;
}

-- the bytes before a place: a number that the code can hold
pub bytes_fit : (place : ℕ) → place ≤ 31 → Fits w64 (place * 8)
bytes_fit place h = omega arith

-- one more ticket noted at caller c's place k, which was free
module _ (tickets : List ℕ) (places : length tickets ≡ 32) (c k t u : ℕ) (low : c < 8) (room : k < 4) where
  place_else : (e j : ℕ) → e < 8 → j < 4 → (e ≡ c → j ≡ k → ⊥) → get_or (set tickets (c + 8 * k) t) (e + 8 * j) 0 ≡ get_or tickets (e + 8 * j) 0
  place_else e j l m ne = get_or-set_other tickets (c + 8 * k) (e + 8 * j) t 0 (λ q. ne (omega arith) (omega arith))

  often_more : k < 3 → get_or tickets (c + 8 * k) 0 ≡ most → u < most → often u (set tickets (c + 8 * k) t) c ≡ often u tickets c + bit (eqb t u)
  unfolding often
  often_more third was h =
      let new : eqb (get_or (set tickets (c + 8 * k) t) (c + 8 * k) 0) u ≡ eqb t u = rw (get_or-set_same tickets (c + 8 * k) t 0 (omega arith)) in
      let old : eqb (get_or tickets (c + 8 * k) 0) u ≡ false = rw was (ne_eqb most u (λ q. absurd (omega arith))) in
      omega (
        arith,
        ap bit new,
        ap bit old,
        count_change (λ j. eqb (get_or tickets (c + 8 * j) 0) u) (λ j. eqb (get_or (set tickets (c + 8 * k) t) (c + 8 * j) 0) u) 3 k third
            (λ j l ne. rw (place_else c j low (omega arith) (λ _ q. ne q))),
      )

  -- and none of another caller's
  often_else : (e : ℕ) → e < 8 → e ≢ c → often u (set tickets (c + 8 * k) t) e ≡ often u tickets e
  unfolding often
  often_else e l ne =
      count_same (λ j. eqb (get_or tickets (e + 8 * j) 0) u) (λ j. eqb (get_or (set tickets (c + 8 * k) t) (e + 8 * j) 0) u) 3 (λ j m. rw (place_else e j l (omega arith) (λ q _. ne q)))

-- row i, which is r, comes next
module _ (d : Desk) (i : ℕ) (tickets next : List ℕ) (w : Passed d i tickets next) (l : i < 32) (r : Row) (same : row d i ≡ r) where
  abbrev c : ℕ
  c = r.caller

  abbrev place : ℕ
  place = get_or next r.caller 0

  -- how many of its caller were passed
  abbrev n : ℕ
  n = count (λ k. of_caller c (row d k)) i

  told : (f : Row → Bool) (b : Bool) → f r ≡ b → f (row d i) ≡ b
  told f b e = ap f same ∙ e

  right_too : (r.filled ≡ true → Right d.counts r) → (k : ℕ) → k < i + 1 → (row d k).filled ≡ true → Right d.counts (row d k)
  right_too h k m f = go (ℕ_discrete k i)
    where
      go : Dec (k ≡ i) → Right d.counts (row d k)
      go (yes q) = rw (q, same) (h (rw (q, same) at f))
      go (no q) = w.each k (omega arith) f

  pub passed_empty : r.filled ≡ false → Passed d (i + 1) tickets next
  passed_empty f = record {
    so_far = omega arith;
    places = w.places;
    callers = w.callers;
    each = right_too (λ g. absurd cc);
    once = λ e t. rw (count_no _ i (told (held e t) false (held_empty e r t f))) (w.once e t);
    four = λ e m. rw (none e) (w.four e m);
    next_all = λ e m. rw (none e) (w.next_all e m);
    free = λ e k m j h. w.free e k m j (rw (none e) at h);
    noted_all = λ e t m h z. w.noted_all e t m h (rw (none e) at z) ∙ sym (count_no _ i (told (held e t) false (held_empty e r t f)));
  }
    where
      none : (e : ℕ) → count (λ k. of_caller e (row d k)) (i + 1) ≡ count (λ k. of_caller e (row d k)) i
      none e = count_no (λ k. of_caller e (row d k)) i (told (of_caller e) false (of_empty e r f))

  module _ (f : r.filled ≡ true) where
    pub wrong_row : row_right d.counts r ≡ false → rows_right d ≡ false
    wrong_row e = not_some (rows_right d) (λ h.
        let g = is_right d.counts (row d i) ((rows_good d h).each i l (rw same f)) in
        let g' : row_right d.counts r ≡ true = ap (λ (x : Row). row_right d.counts x) (sym same) ∙ g in
        absurd cc)

    -- so often among the rows passed, and once more
    counted_too : (g : Row → Bool) → g r ≡ true → count (λ k. g (row d k)) i + 1 ≤ count (λ k. g (row d k)) 32
    counted_too g e = omega (arith, count_yes (λ k. g (row d k)) i (told g true e), count_part (λ k. g (row d k)) (i + 1) 32 (omega arith))

    pub fifth_row : c < 8 → 31 < place → rows_right d ≡ false
    unfolding tally
    fifth_row k h = not_some (rows_right d) (λ e.
        absurd (omega (arith, (rows_good d e).four c, counted_too (of_caller c) (is_of_lem c r f refl), w.next_all c k)))

    module _ (m : counts_right d.counts ≡ true) (g : Right d.counts r) where
      -- the ticket is one that may be given
      below : r.ticket < most
      below = omega (arith, g.given, counts_few d m c g.known)

      pub ticket_again : place ≤ 31 → (b : Bool) → b ≡ among r.ticket tickets c → b ≡ true → rows_right d ≡ false
      unfolding tally among
      ticket_again room b a h = not_some (rows_right d) (λ e.
          absurd (omega (arith, ltb-true 0 (often r.ticket tickets c) (sym a ∙ h), (rows_good d e).once c r.ticket, counted_too (held c r.ticket) (is_held c r r.ticket f refl refl), w.noted_all c r.ticket g.known below (omega (arith, w.next_all c g.known)))))

      module _ (room : place ≤ 31) (b : Bool) (a : b ≡ among r.ticket tickets c) (new : b ≡ false) where
        -- its caller has at most three so far, and its place is the next of them
        few : n < 4
        few = omega (arith, w.next_all c g.known)

        there : place ≡ c + 8 * n
        there = w.next_all c g.known

        -- its caller and ticket were not among them
        first : count (λ k. held c r.ticket (row d k)) i ≡ 0
        unfolding among
        first = omega (arith, ltb-false 0 (often r.ticket tickets c) (sym a ∙ new), w.noted_all c r.ticket g.known below (omega (arith, few)))

        once_too : (e t : ℕ) → count (λ k. held e t (row d k)) (i + 1) ≤ 1
        once_too e t = go (ℕ_discrete c e) (ℕ_discrete r.ticket t)
          where
            go : Dec (c ≡ e) → Dec (r.ticket ≡ t) → count (λ k. held e t (row d k)) (i + 1) ≤ 1
            go (yes p) (yes q) = rw (← p, ← q, count_yes (λ k. held c r.ticket (row d k)) i (told (held c r.ticket) true (is_held c r r.ticket f refl refl)), first) (omega arith)
            go (yes p) (no q) = rw (count_no (λ k. held e t (row d k)) i (told (held e t) false (held_later e r t q))) (w.once e t)
            go (no p) q = rw (count_no (λ k. held e t (row d k)) i (told (held e t) false (held_other e r t p))) (w.once e t)

        -- one more of its caller, none of another
        one_more : count (λ k. of_caller c (row d k)) (i + 1) ≡ n + 1
        one_more = count_yes (λ k. of_caller c (row d k)) i (told (of_caller c) true (is_of_lem c r f refl))

        none_else : (e : ℕ) → e ≢ c → count (λ k. of_caller e (row d k)) (i + 1) ≡ count (λ k. of_caller e (row d k)) i
        none_else e p = count_no (λ k. of_caller e (row d k)) i (told (of_caller e) false (of_other e r (λ q. p (sym q))))

        four_too : (e : ℕ) → e < 8 → count (λ k. of_caller e (row d k)) (i + 1) ≤ 4
        four_too e l = go (ℕ_discrete e c)
          where
            go : Dec (e ≡ c) → count (λ k. of_caller e (row d k)) (i + 1) ≤ 4
            go (yes p) = rw (p, one_more) (omega (arith, few))
            go (no p) = rw (none_else e p) (w.four e l)

        next_too : (e : ℕ) → e < 8 → get_or (set next c (place + 8)) e 0 ≡ e + 8 * count (λ k. of_caller e (row d k)) (i + 1)
        next_too e l = go (ℕ_discrete e c)
          where
            go : Dec (e ≡ c) → get_or (set next c (place + 8)) e 0 ≡ e + 8 * count (λ k. of_caller e (row d k)) (i + 1)
            go (yes p) = rw (p, get_or-set_same next c (place + 8) 0 (omega (arith, w.callers, g.known)), one_more) (omega (arith, there))
            go (no p) = rw (get_or-set_other next c e (place + 8) 0 p, none_else e p) (w.next_all e l)

        -- what is free of a caller's places stays so, but for this one
        free_too : (e k : ℕ) → e < 8 → k < 4 → count (λ j. of_caller e (row d j)) (i + 1) ≤ k → get_or (set tickets place r.ticket) (e + 8 * k) 0 ≡ most
        free_too e k l m h = rw there (go (ℕ_discrete e c))
          where
            go : Dec (e ≡ c) → get_or (set tickets (c + 8 * n) r.ticket) (e + 8 * k) 0 ≡ most
            go (yes p) =
                let h' = rw (p, one_more) at h in
                place_else tickets w.places c n r.ticket r.ticket g.known few e k l m (λ _ q. absurd (omega arith)) ∙ w.free e k l m (rw p (omega arith))
            go (no p) =
                place_else tickets w.places c n r.ticket r.ticket g.known few e k l m (λ q _. p q) ∙ w.free e k l m (rw (none_else e p) at h)

        noted_too : (e t : ℕ) → e < 8 → t < most → count (λ k. of_caller e (row d k)) (i + 1) ≤ 3
            → often t (set tickets place r.ticket) e ≡ count (λ k. held e t (row d k)) (i + 1)
        noted_too e t l h z = rw there (go (ℕ_discrete e c))
          where
            so_far : often t tickets c ≡ count (λ k. held c t (row d k)) i
            so_far = w.noted_all c t g.known h (omega (arith, few))

            here : Dec (r.ticket ≡ t) → often t tickets c + bit (eqb r.ticket t) ≡ count (λ k. held c t (row d k)) (i + 1)
            here (yes q) =
                rw (eq-eqb _ _ q, count_yes (λ k. held c t (row d k)) i (told (held c t) true (is_held c r t f refl q))) (ap (λ (x : ℕ). x + 1) so_far)
            here (no q) =
                rw (ne_eqb _ _ q, count_no (λ k. held c t (row d k)) i (told (held c t) false (held_later c r t q))) (omega (arith, so_far))

            go : Dec (e ≡ c) → often t (set tickets (c + 8 * n) r.ticket) e ≡ count (λ k. held e t (row d k)) (i + 1)
            go (yes p) =
                let z' = rw p at z in
                let third : n < 3 = omega (arith, one_more) in
                rw (p, often_more tickets w.places c n r.ticket t g.known few third (w.free c n g.known few (omega arith)) h) (here (ℕ_discrete r.ticket t))
            go (no p) =
                rw (
                  often_else tickets w.places c n r.ticket t g.known few e l p,
                  count_no (λ k. held e t (row d k)) i (told (held e t) false (held_other e r t (λ q. p (sym q)))),
                ) (w.noted_all e t l h (rw (none_else e p) at z))

        pub passed_filled : Passed d (i + 1) (set tickets place r.ticket) (set next c (place + 8))
        passed_filled = record {
          so_far = omega arith;
          places = length-set tickets place r.ticket ∙ w.places;
          callers = length-set next c (place + 8) ∙ w.callers;
          each = right_too (λ _. g);
          once = once_too;
          four = four_too;
          next_all = next_too;
          free = free_too;
          noted_all = noted_too;
        }

-- all passed
pub passed_all : (d : Desk) (i : ℕ) (tickets next : List ℕ) → Passed d i tickets next → 32 ≤ i → rows_right d ≡ true
unfolding tally
passed_all d i tickets next w h = good_rows d (record { each = right; once = λ e t. rw end at (w.once e t); four = all_four d right four })
  where
    end : i ≡ 32
    end = omega (arith, w.so_far)

    right : (k : ℕ) → k < 32 → (row d k).filled ≡ true → Right d.counts (row d k)
    right k l f = w.each k (omega (arith, end)) f

    four : (e : ℕ) → e < 8 → count (λ k. of_caller e (row d k)) 32 ≤ 4
    four e m = rw end at (w.four e m)
