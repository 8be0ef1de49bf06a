-- What a desk holds after one of its rows was changed. Assumes nothing.
use mathlib.Core.Path.{◌≡◌, refl, ap, ◌∙◌}
use mathlib.Core.Logic.{◌≢◌}
use mathlib.Core.Bool.{Bool, true, false}
use mathlib.Core.List.{List}
use Prim.Native.Nat.{ℕ, suc, ◌+◌, ◌%◌, ◌≤◌, ◌<◌}
use native.Mathlib.Omega.{arith}
use native.Mathlib.Decide.{ℕ_discrete}
use lib.Dec.{ltb}
use lib.ListN.{get_or, set, length}
use lib.Seq.{get_or-set_same, get_or-set_other}
use borrow.Author.Tests.{ltb-true, ltb-false}
use Rattle.ledger.specs.declared.Row.{Row}
use Rattle.ledger.specs.declared.Desk.{Desk}
use Rattle.ledger.specs.Search.{bit, least, count}
use Rattle.ledger.specs.Rows.{blank, row, put, tally, onward, lowest}
use Rattle.ledger.proofs.Search.{least_true, least_le, count_change, none_counted, some_counted}

-- ---- the row that was changed, and the others

module _ (d : Desk) (j : ℕ) (r : Row) (n : List ℕ) (p : ℕ) where
  pub row_here : length d.rows ≡ 32 → j < 32 → row (put d j r n p) j ≡ r
  unfolding row
  row_here l h = get_or-set_same d.rows j r blank (omega arith)

  pub row_else : (i : ℕ) → i ≢ j → row (put d j r n p) i ≡ row d i
  unfolding row
  row_else i h = get_or-set_other d.rows j i r blank h

  -- what holds of the new row, and of each other, holds of each row afterwards
  pub row_each : (P : ℕ → Row → Type 0) → length d.rows ≡ 32 → j < 32
      → P j r → ((i : ℕ) → i < 32 → i ≢ j → P i (row d i)) → (i : ℕ) → i < 32 → P i (row (put d j r n p) i)
  row_each P l h new old i m = go (ℕ_discrete i j)
    where
      go : Dec (i ≡ j) → P i (row (put d j r n p) i)
      go (yes e) = rw (e, row_here l h) new
      go (no e) = rw (row_else i e) (old i m e)

-- a test that tells the old row and the new one thus
module _ (f : Row → Bool) (d : Desk) (j : ℕ) (r : Row) (n : List ℕ) (p : ℕ) (l : length d.rows ≡ 32) (h : j < 32) where
  pub tally_put : tally f (put d j r n p) + bit (f (row d j)) ≡ tally f d + bit (f r)
  unfolding tally
  tally_put =
      let e = count_change (λ i. f (row d i)) (λ i. f (row (put d j r n p) i)) 32 j h (λ i m q. ap f (row_else d j r n p i q)) in
      e ∙ ap (λ (x : Row). count (λ i. f (row d i)) 32 + bit (f x)) (row_here d j r n p l h)

  pub tally_same : f (row d j) ≡ f r → tally f (put d j r n p) ≡ tally f d
  tally_same e = omega (arith, tally_put, ap bit e)

  pub tally_more : f (row d j) ≡ false → f r ≡ true → tally f (put d j r n p) ≡ suc (tally f d)
  tally_more e q = omega (arith, tally_put, ap bit e, ap bit q)

  pub tally_less : f (row d j) ≡ true → f r ≡ false → suc (tally f (put d j r n p)) ≡ tally f d
  tally_less e q = omega (arith, tally_put, ap bit e, ap bit q)

-- the counts, where one is another
pub counts_each : (l : List ℕ) (c v : ℕ) (P : ℕ → ℕ → Type 0) → c < length l → P c v → ((i : ℕ) → i ≢ c → P i (get_or l i 0)) → (i : ℕ) → P i (get_or (set l c v) i 0)
counts_each l c v P h new old i = go (ℕ_discrete i c)
  where
    go : Dec (i ≡ c) → P i (get_or (set l c v) i 0)
    go (yes e) = rw (e, get_or-set_same l c v 0 h) new
    go (no e) = rw (get_or-set_other l c i v 0 e) (old i e)

-- ---- what a search that found a row says, and one that found none

module _ (f : Row → Bool) (d : Desk) where
  pub onward_true : (from : ℕ) → onward f d from < 32 → f (row d ((from + onward f d from) % 32)) ≡ true
  unfolding onward
  onward_true from h = least_true (λ k. f (row d ((from + k) % 32))) 32 h

  pub onward_le : (from k : ℕ) → k < 32 → f (row d ((from + k) % 32)) ≡ true → onward f d from ≤ k
  unfolding onward
  onward_le from k h e = least_le (λ k. f (row d ((from + k) % 32))) 32 k h e

  from_0 : (i : ℕ) → i < 32 → (0 + i) % 32 ≡ i
  from_0 i h = omega arith

  pub lowest_true : lowest f d < 32 → f (row d (lowest f d)) ≡ true
  lowest_true h = rw (from_0 (lowest f d) h) at (onward_true 0 h)

  pub lowest_le : (i : ℕ) → i < 32 → f (row d i) ≡ true → lowest f d ≤ i
  lowest_le i h e = onward_le 0 i h (rw (from_0 i h) e)

  pub none_lowest : tally f d ≡ 0 → 32 ≤ lowest f d
  unfolding tally
  none_lowest e = go (ltb (lowest f d) 32) refl
    where
      go : (b : Bool) → ltb (lowest f d) 32 ≡ b → 32 ≤ lowest f d
      go false q = ltb-false (lowest f d) 32 q
      go true q =
          let n = ltb-true (lowest f d) 32 q in
          absurd (omega (arith, some_counted (λ i. f (row d i)) 32 (lowest f d) n (lowest_true n)))

  pub some_lowest : (n : ℕ) → tally f d ≡ suc n → lowest f d < 32
  unfolding tally
  some_lowest n e = go (ltb (least (λ i. f (row d i)) 32) 32) refl
    where
      go : (b : Bool) → ltb (least (λ i. f (row d i)) 32) 32 ≡ b → lowest f d < 32
      go true q =
          let m = ltb-true (least (λ i. f (row d i)) 32) 32 q in
          omega (arith, lowest_le (least (λ i. f (row d i)) 32) m (least_true (λ i. f (row d i)) 32 m))
      go false q = absurd (omega (arith, none_counted (λ i. f (row d i)) 32 (ltb-false (least (λ i. f (row d i)) 32) 32 q)))
