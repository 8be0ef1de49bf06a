-- A run played record by record: what `replay` cites. Assumes nothing.
use Prim.Native.Nat.{ℕ, ◌+◌, ◌-◌, ◌≤◌, ◌<◌}
use native.Mathlib.Omega.{arith}
use native.Mathlib.Numerals.{add-one}
use mathlib.Core.Path.{◌≡◌, refl, sym, ap, subst, ◌∙◌}
use mathlib.Core.List.{List}
use mathlib.Core.Logic.{⊎_elim}
use native.Mathlib.Nat.{eq-or-lt_of_le}
use lib.ListN.{length, take, drop, length-drop}
use lib.Seq.{take-length, drop-drop}
use Rattle.runs.specs.Model.{new_desk}
use Rattle.ledger.specs.declared.Desk.{Desk}
use Rattle.records.specs.Records.{deed_of}
use Rattle.transcript.specs.declared.Step.{Step}
use Rattle.transcript.specs.Steps.{desk_after, taken_by, Done, text_of, standing, onward, deed_at, record_text, Next, Played, Ended}
use Rattle.transcript.proofs.DeedLaws.{there, some}

-- the first record finds a new desk
pub first : (run : List ℕ) → Next run 0 0 new_desk
unfolding standing
first run = record { desk = refl; rest = refl }

-- a slice from a place to its end is what is left there
tail : (run : List ℕ) (at : ℕ) → take (length run - at) (drop at run) ≡ drop at run
tail run at = ap (λ (n : ℕ). take n (drop at run)) (sym (length-drop at run)) ∙ take-length (drop at run)

-- one record on
then_standing : (run : List ℕ) (k : ℕ) → standing run (k + 1) ≡ onward (standing run k)
unfolding standing
then_standing run k = ap (standing run) (add-one k)

-- and each comes behind the one that was played
pub played : {run : List ℕ} {k at : ℕ} {d : Desk} {r : Step} → at ≤ length run → Next run k at d → Done (take (length run - at) (drop at run)) d r → Played run k at r
played {run} {k} {at} {d} {r} h n x =
    let s = standing run k in
    let left = length-drop at run in
    let whole = ap length (tail run at) ∙ left in
    record {
      there = omega (arith, there x, whole);
      some = λ l. some x (omega (arith, whole, l));
      next = record {
        desk =
            x.desk
            ∙ ap (λ (l : List ℕ). desk_after l d (deed_of l)) (tail run at ∙ n.rest)
            ∙ ap (λ (e : Desk). desk_after s.rest e (deed_of s.rest)) n.desk
            ∙ ap (λ t. t.desk) (sym (then_standing run k));
        rest =
            sym (drop-drop r.taken at run)
            ∙ ap (λ (m : ℕ). drop m (drop at run)) (x.taken ∙ ap (λ (l : List ℕ). taken_by l (deed_of l)) (tail run at))
            ∙ ap (λ (l : List ℕ). drop (taken_by l (deed_of l)) l) n.rest
            ∙ ap (λ t. t.rest) (sym (then_standing run k));
      };
    }

-- what is written for the next record is the definition's own text of it
pub next_text : {run : List ℕ} {k at : ℕ} {d : Desk} → Next run k at d → text_of (k + 1) d (deed_of (take (length run - at) (drop at run))) ≡ record_text run k
next_text {run} {k} {at} {d} n =
    ap (λ (l : List ℕ). text_of (k + 1) d (deed_of l)) (tail run at ∙ n.rest) ∙ ap (λ (e : Desk). text_of (k + 1) e (deed_at run k)) n.desk

-- ---- where the run ends

-- how much is left before a record
left_there : {run : List ℕ} {k at : ℕ} {d : Desk} → Next run k at d → length (standing run k).rest ≡ length run - at
left_there {run} {k} {at} n = sym (ap length n.rest) ∙ length-drop at run

-- something is left behind each of the first k records
pub record Going (run : List ℕ) (k : ℕ) : Type 0 where
  pub left : (j : ℕ) → 0 < j → j ≤ k → 0 < length (standing run j).rest

-- before the first
pub begun : (run : List ℕ) → Going run 0
begun run = record { left = λ j p l. absurd (omega (arith, p, l)) }

-- and behind one more
pub goes_on : {run : List ℕ} {k at : ℕ} {d : Desk} → Going run k → Next run (k + 1) at d → at < length run → Going run (k + 1)
goes_on {run} {k} {at} {d} g n l = record {
  left = λ j p h.
      ⊎_elim (λ (e : j ≡ k + 1). subst (λ (i : ℕ). 0 < length (standing run i).rest) (sym e) (omega (arith, left_there n, l)))
      (λ (m : j < k + 1). g.left j p (omega (arith, m)))
      (eq-or-lt_of_le h);
}

-- until nothing is
pub ended : {run : List ℕ} {k at : ℕ} {d : Desk} → Going run k → Next run (k + 1) at d → length run ≤ at → Ended run (k + 1)
ended {run} {k} {at} {d} g n l = record { one = omega arith; left = λ j p h. g.left j p (omega (arith, h)); over = omega (arith, left_there n, l) }
