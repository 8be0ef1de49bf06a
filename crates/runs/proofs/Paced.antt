-- The pace of a row on any sound desk, from where it stands: each 32 turns bring a halving, whoever calls what. Assumes nothing.
use mathlib.Core.Path.{◌≡◌, refl, subst}
use mathlib.Core.Bool.{Bool, true, false}
use mathlib.Core.List.{List}
use Prim.Native.Nat.{ℕ, ◌+◌, ◌*◌, ◌≤◌, ◌<◌}
use native.Mathlib.Omega.{arith}
use lib.Dec.{ltb}
use borrow.Author.Tests.{ltb-true, ltb-false}
use Rattle.ledger.specs.declared.Desk.{Desk}
use Rattle.ledger.specs.Rows.{row, held}
use Rattle.ledger.proofs.Good.{Good}
use Rattle.runs.specs.Model.{query_of, bracket_of}
use Rattle.brackets.specs.Brackets.{times}
use Rattle.runs.specs.Runs.{Call, after_from, turns, HalvedSince}
use Rattle.runs.proofs.Tickets.{one_row}
use Rattle.runs.proofs.Round.{ahead_lt}
use Rattle.runs.proofs.Posts.{Job}
use Rattle.runs.proofs.Kept.{was_given}
use Rattle.runs.proofs.Fair.{Fits, Tracked}
use Rattle.runs.proofs.Own.{tracked_run}

-- row i is that of caller c's ticket t
module _ (d : Desk) (g : Good d) (c t i : ℕ) (place : i < 32) (has : held c t (row d i) ≡ true) where
  -- the job that is left of it
  abbrev rest : Job
  rest = record { query = query_of (row d i); number = (row d i).number; bracket = bracket_of (row d i) }

  tracked_here : Tracked c t rest (row d i).halvings 0 d
  unfolding times
  tracked_here = record {
    mine = was_given d g c t i place has;
    fits = λ j l h. subst (λ (k : ℕ). Fits rest (row d i).halvings 0 d.pointer k (row d k)) (one_row d g c t i j place l has h) (record {
      more = 0;
      counts = omega arith;
      same = refl;
      number_posted = refl;
      halved_to = refl;
      pace = λ s. omega (arith, ahead_lt d.pointer i);
    });
  }

  pub halved_since : (xs : List Call) (j : ℕ) → j < 32 → held c t (row (after_from d xs) j) ≡ true
      → (n : ℕ) × HalvedSince (row d i) n (row (after_from d xs) j) × ((k : ℕ) → 32 * k ≤ turns xs → (row d i).halvings + k ≤ (row d i).number → k ≤ n)
  halved_since xs j l h = (
    f.more,
    record { same_query = f.same; same_number = f.number_posted; more = f.counts; own_bracket = f.halved_to },
    λ k m r. go k m r (ltb (row (after_from d xs) j).halvings (row (after_from d xs) j).number) refl,
  )
    where
      f : Fits rest (row d i).halvings (turns xs) (after_from d xs).pointer j (row (after_from d xs) j)
      f = (tracked_run c t rest (row d i).halvings d xs 0 (turns xs) (omega arith) g tracked_here).fits j l h

      go : (k : ℕ) → 32 * k ≤ turns xs → (row d i).halvings + k ≤ (row d i).number → (b : Bool)
          → ltb (row (after_from d xs) j).halvings (row (after_from d xs) j).number ≡ b → k ≤ f.more
      go k m r true e = let s = ltb-true (row (after_from d xs) j).halvings (row (after_from d xs) j).number e in omega (arith, f.pace s)
      go k m r false e = let s = ltb-false (row (after_from d xs) j).halvings (row (after_from d xs) j).number e in omega (arith, f.counts, f.number_posted)
