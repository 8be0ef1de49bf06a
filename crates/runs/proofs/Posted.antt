-- An open ticket has its post in the run; so in a patient run each collect of an open ticket gives a state. Assumes nothing.
use mathlib.Core.Path.{◌≡◌, refl, sym, ap, ◌∙◌, subst}
use mathlib.Core.Bool.{true}
use mathlib.Core.List.{List, [], ◌∷◌, ◌++◌, append_assoc, append-nil}
use Prim.Native.Nat.{ℕ, ◌+◌, ◌%◌, ◌<◌}
use native.Mathlib.Omega.{arith}
use lib.ListN.{set}
use Rattle.ledger.specs.declared.Desk.{Desk}
use Rattle.std.specs.Prelude.{Result, Ok}
use Rattle.refusals.specs.declared.Refusal.{Refusal}
use Rattle.runs.specs.declared.Answer.{Answer}
use Rattle.runs.specs.declared.Answer.TheVariants.{Ticket}
use Rattle.ledger.specs.Rows.{blank, row, counted, held, vacant, lowest}
use Rattle.runs.specs.Model.{new_desk, fresh, halved_row, next, past, post_of}
use Rattle.ledger.proofs.Tests.{held_empty}
use Rattle.runs.proofs.Halved.{held_halved}
use Rattle.ledger.proofs.Changes.{row_each}
use Rattle.ledger.proofs.Good.{Good, good_sound}
use Rattle.runs.specs.Runs.{Call, post, turn, collect, step, after_from, after, answer_to, OpenFor, Patient, Gives, CollectsGive, Origin}
use Rattle.runs.proofs.Posts.{post_ruled}
use Rattle.runs.proofs.Kept.{Effect, kept, idled, turned, seated, freed, effect, good_step, good_new, row_new, held_fresh, seat_free}
use Rattle.runs.proofs.Own.{after_append, collect_ready}

later : (c t : ℕ) (run : List Call) (x : Call) → Origin c t run → Origin c t (run ++ x ∷ [])
later c t run x o = record {
  pre = o.pre;
  since = o.since ++ x ∷ [];
  kind = o.kind;
  p = o.p;
  y = o.y;
  number = o.number;
  posted = (ap (λ (l : List Call). l ++ x ∷ []) o.posted.0 ∙ append_assoc o.pre (post c o.kind o.p o.y o.number ∷ o.since) (x ∷ []), o.posted.1);
}

abbrev Origins : ℕ → List Call → Desk → Type 0
Origins c run d = (t i : ℕ) → i < 32 → held c t (row d i) ≡ true → Origin c t run

origins_effect : (c : ℕ) (run : List Call) (d e : Desk) (x : Call) → after run ≡ d → Good d → Origins c run d → Effect d x e → Origins c (run ++ x ∷ []) e
origins_effect c run d e x s g o (kept y h) = λ t i l q. later c t run x (o t i l q)
origins_effect c run d e x s g o (idled h) = λ t i l q. later c t run turn (o t i l q)
origins_effect c run d e x s g o (turned h) =
    let j = (d.pointer + next d) % 32 in
    λ t. row_each d j (halved_row (row d j)) d.counts (past j) (λ i r. held c t r ≡ true → Origin c t (run ++ turn ∷ [])) g.long (omega arith)
    (λ q. later c t run turn (o t j (omega arith) (rw (held_halved c (row d j) t) at q)))
    (λ i l ne q. later c t run turn (o t i l q))
origins_effect c run d e x s g o (seated c' k p y number j w r) =
    λ t. row_each d (lowest vacant d) (fresh c' (counted d c') j.query j.number j.bracket) (set d.counts c' (counted d c' + 1)) d.pointer
    (λ i v. held c t v ≡ true → Origin c t (run ++ post c' k p y number ∷ [])) g.long (seat_free d g c' k p y number j w)
    (λ q. new t (held_fresh c t c' (counted d c') j q))
    (λ i l ne q. later c t run (post c' k p y number) (o t i l q))
  where
    given_to : answer_to run (post c' k p y number) ≡ Ok (Ticket (counted d c'))
    given_to = ap (λ (v : Desk). (post_of v c' k p y number).answer) s ∙ rw (post_ruled d c' k p y number (good_sound d g), r)

    new : (t : ℕ) → (c' ≡ c) × (counted d c' ≡ t) → Origin c t (run ++ post c' k p y number ∷ [])
    new t q = record {
      pre = run;
      since = [];
      kind = k;
      p = p;
      y = y;
      number = number;
      posted = (ap (λ (v : ℕ). run ++ post v k p y number ∷ []) q.0, subst (λ (v : ℕ). answer_to run (post v k p y number) ≡ Ok (Ticket t)) q.0 (given_to ∙ ap {B = Result Answer Refusal} (λ (v : ℕ). Ok (Ticket v)) q.1));
    }
origins_effect c run d e x s g o (freed y h c' t' w i k) =
    λ t. row_each d i blank d.counts d.pointer (λ n r. held c t r ≡ true → Origin c t (run ++ x ∷ [])) g.long k.place
    (λ q. absurd (let n = held_empty c blank t refl in cc))
    (λ n m ne q. later c t run x (o t n m q))

pub after_one : (run : List Call) (d : Desk) (x : Call) → after run ≡ d → after (run ++ x ∷ []) ≡ (step d x).desk
unfolding after_from
after_one run d x s = after_append new_desk run (x ∷ []) ∙ ap (λ (e : Desk). (step e x).desk) s

origins : (c : ℕ) (run rest : List Call) (d : Desk) → after run ≡ d → Good d → Origins c run d → Origins c (run ++ rest) (after_from d rest)
unfolding after_from
origins c run [] d s g o = rw (append-nil run) o
origins c run (x ∷ rest) d s g o =
    rw (← (append_assoc run (x ∷ []) rest)) (origins c (run ++ x ∷ []) rest (step d x).desk (after_one run d x s) (good_step d x g)
    (origins_effect c run d (step d x).desk x s g o (effect d g x)))

-- a ticket that is open for a caller was given to it by a post of the run
pub open_posted : (c t : ℕ) (run : List Call) → OpenFor c t (after run) → Origin c t run
unfolding after_from
open_posted c t run o = origins c [] run new_desk refl good_new none t o.0 o.1 o.2
  where
    none : Origins c [] new_desk
    none t i l h = absurd (let q = rw (row_new i l) at h in let n = held_empty c blank t refl in cc)

pub patient_collects : (c : ℕ) (xs : List Call) → c < 8 → Patient c xs → CollectsGive c xs
patient_collects c xs l w before rest t e o =
    let r = open_posted c t before o in
    let n = w before rest t e o r in
    subst (λ (b : List Call). Gives (answer_to b (collect c t))) (sym r.posted.0)
    (collect_ready c t r.kind r.p r.y r.number r.pre r.since l r.posted.1 (subst (λ (b : List Call). OpenFor c t (after b)) r.posted.0 o) n)
