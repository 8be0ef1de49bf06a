-- The halvings that a peek shows are the turns that the ticket's row received since its post: a turn goes to one row, and no other call moves the count.
-- Assumes nothing.
use mathlib.Core.Path.{◌≡◌, refl, sym, ap, ◌∙◌, subst}
use mathlib.Core.Logic.{◌≢◌}
use mathlib.Core.Bool.{Bool, true, false}
use mathlib.Core.List.{List, [], ◌∷◌, ◌++◌}
use Prim.Native.Nat.{ℕ, ◌+◌, ◌%◌, ◌≤◌, ◌<◌}
use native.Mathlib.Omega.{arith}
use lib.ListN.{set}
use lib.Seq.{get_or-set_same}
use lib.Ieee.{Float}
use borrow.Author.Tests.{lt-ltb, le-ltb}
use Rattle.ledger.specs.declared.Desk.{Desk}
use Rattle.std.specs.Prelude.{Ok}
use Rattle.runs.specs.declared.Answer.TheVariants.{Ticket, Shown}
use Rattle.ledger.specs.Search.{bit}
use Rattle.ledger.specs.Rows.{blank, row, counted, held, of_caller, vacant, tally, lowest}
use Rattle.runs.specs.Model.{new_desk, fresh, halved_row, next, past, turned_at}
use Rattle.ledger.proofs.Tests.{held_empty}
use Rattle.runs.proofs.Halved.{held_halved}
use Rattle.ledger.proofs.Changes.{row_each, counts_each}
use Rattle.ledger.proofs.Good.{Good}
use Rattle.runs.proofs.Tickets.{one_row}
use Rattle.runs.specs.Runs.{Call, post, peek, step, after_from, after, answer_to, goes_to, received}
use Rattle.runs.proofs.Posts.{Job, Granted, seats}
use Rattle.runs.proofs.Kept.{Effect, kept, idled, turned, seated, freed, effect, good_step, held_fresh, seat_free, counts_wide, was_given}
use Rattle.runs.proofs.Own.{good_after, after_append, got, peeked}

module _ (c t : ℕ) where
  record Has (h : ℕ) (d : Desk) : Type 0 where
    mine : t < counted d c
    has : (i : ℕ) → i < 32 → held c t (row d i) ≡ true → (row d i).halvings ≡ h

  has_turned : (h : ℕ) (d : Desk) → Good d → Has h d → (j : ℕ) → j < 32 → Has (h + bit (held c t (row d j))) (turned_at d j)
  unfolding halved_row
  has_turned h d g o j l = go (held c t (row d j)) refl
    where
      old : (b : Bool) → held c t (row d j) ≡ b → (i : ℕ) → i < 32 → i ≢ j → held c t (row d i) ≡ true → (row d i).halvings ≡ h + bit b
      old true e i m ne q = absurd (ne (one_row d g c t i j m l q e))
      old false e i m ne q = omega (arith, o.has i m q)

      go : (b : Bool) → held c t (row d j) ≡ b → Has (h + bit b) (turned_at d j)
      go b e = record {
        mine = o.mine;
        has = row_each d j (halved_row (row d j)) d.counts (past j) (λ i r. held c t r ≡ true → r.halvings ≡ h + bit b) g.long l
            (λ q.
            let q' = sym (held_halved c (row d j) t) ∙ q in
            let one = ap bit (sym e ∙ q') in
            omega (arith, o.has j l q'))
            (λ i m ne q. old b e i m ne q);
      }

  has_effect : (h : ℕ) (d e : Desk) (x : Call) → Good d → Has h d → Effect d x e → Has (h + bit (goes_to c t d x)) e
  has_effect h d e x g o (kept y q) = rw q (record { mine = o.mine; has = λ i l r. omega (arith, o.has i l r) })
  has_effect h d e x g o (idled q) = rw (le-ltb (next d) 32 q) (record { mine = o.mine; has = λ i l r. omega (arith, o.has i l r) })
  has_effect h d e x g o (turned q) = rw (lt-ltb (next d) 32 q) (has_turned h d g o ((d.pointer + next d) % 32) (omega arith))
  has_effect h d e x g o (seated c' k p y number j w r) = record {
    mine = omega (arith, o.mine, counts_each d.counts c' (counted d c' + 1) (λ i v. counted d i ≤ v) (counts_wide d g c' k p y number j w) (omega arith) (λ i q. omega arith) c);
    has = row_each d (lowest vacant d) (fresh c' (counted d c') j.query j.number j.bracket) (set d.counts c' (counted d c' + 1)) d.pointer (λ i v. held c t v ≡ true → v.halvings ≡ h + 0) g.long
        (seat_free d g c' k p y number j w)
        (λ q.
        let s = held_fresh c t c' (counted d c') j q in
        let z = ap (λ (v : ℕ). counted d v) s.0 in
        absurd (omega (arith, o.mine)))
        (λ i l ne q. omega (arith, o.has i l q));
  }
  has_effect h d e x g o (freed y q c' t' w i s) = rw q (record {
    mine = o.mine;
    has = row_each d i blank d.counts d.pointer (λ k r. held c t r ≡ true → r.halvings ≡ h + 0) g.long s.place
        (λ z. absurd (let n = held_empty c blank t refl in cc))
        (λ k m ne z. omega (arith, o.has k m z));
  })

  has_run : (h : ℕ) (d : Desk) (xs : List Call) → Good d → Has h d → Has (h + received c t d xs) (after_from d xs)
  unfolding after_from received
  has_run h d [] g o = record { mine = o.mine; has = λ i l r. omega (arith, o.has i l r) }
  has_run h d (x ∷ xs) g o =
      let r = has_run (h + bit (goes_to c t d x)) (step d x).desk xs (good_step d x g) (has_effect h d (step d x).desk x g o (effect d g x)) in
      record { mine = r.mine; has = λ i l q. omega (arith, r.has i l q) }

  has_fresh : (d : Desk) → Good d → (k : ℕ) (p y : Float) (number : ℕ) (j : Job) → Granted c k p y number (counted d c) (tally (of_caller c) d) j → counted d c ≡ t → Has 0 (seats d c j)
  has_fresh d g k p y number j w own = record {
    mine = rw (get_or-set_same d.counts c (counted d c + 1) 0 (counts_wide d g c k p y number j w)) (omega arith);
    has = row_each d (lowest vacant d) (fresh c (counted d c) j.query j.number j.bracket) (set d.counts c (counted d c + 1)) d.pointer (λ i v. held c t v ≡ true → v.halvings ≡ 0) g.long
        (seat_free d g c k p y number j w) (λ q. refl) (λ i l ne q. absurd (omega (arith, was_given d g c t i l q)));
  }

  pub peek_received : (k : ℕ) (p y : Float) (number : ℕ) (pre since : List Call) (n : ℕ) (lo hi : Float) → answer_to pre (post c k p y number) ≡ Ok (Ticket t)
      → answer_to (pre ++ post c k p y number ∷ since) (peek c t) ≡ Ok (Shown n lo hi) → n ≡ received c t (after (pre ++ post c k p y number ∷ [])) since
  unfolding after_from
  peek_received k p y number pre since n lo hi e q =
      let w = got d₀ g₀ c k p y number t e in
      let o : Has 0 d = rw w.leaves (has_fresh d₀ g₀ k p y number w.job w.granted w.own) in
      let v = after_from d since in
      let z = peeked v c t n lo hi (subst (λ (v : Desk). (step v (peek c t)).answer ≡ Ok (Shown n lo hi)) (after_append new_desk pre (post c k p y number ∷ since)) q) in
      let s = z.seat in
      let one = ap (λ (v : Desk). received c t v since) (after_append new_desk pre (post c k p y number ∷ [])) in
      omega (arith, z.halvings, one, (has_run 0 d since g o).has z.at s.place s.has)
    where
      d₀ : Desk
      d₀ = after pre

      g₀ : Good d₀
      g₀ = good_after pre

      d : Desk
      d = (step d₀ (post c k p y number)).desk

      g : Good d
      g = good_step d₀ (post c k p y number) g₀
