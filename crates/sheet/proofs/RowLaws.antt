-- The rows of a sheet, one by one. Assumes nothing.
use mathlib.Core.Path.{◌≡◌, refl, ap, ◌∙◌}
use mathlib.Core.Bool.{Bool, true, false, ◌&&◌}
use mathlib.Core.List.{List}
use mathlib.Core.Logic.{⊎_elim}
use Prim.Native.Nat.{ℕ, zero, suc, ◌+◌, ◌*◌, ◌<◌}
use native.Mathlib.Nat.{le_of_suc-le-suc, not-suc-le-zero, eq-or-lt_of_le}
use native.Mathlib.Numerals.{add-one}
use native.Mathlib.Omega.{arith}
use lib.ListN.{length}
use lib.Dec.{ltb}
use borrow.Author.Tests.{ltb-true, ltb-false, leb-true}
use Rattle.words.specs.Words.{u64_at}
use Rattle.words.proofs.WordLaws.{u64_past}
use Rattle.sheet.specs.Rows.{kind_known, kinds_known}

pub and_left : (a b : Bool) → (a && b) ≡ true → a ≡ true
and_left true b e = refl
and_left false b e = e

pub and_right : (a b : Bool) → (a && b) ≡ true → b ≡ true
and_right true b e = e
and_right false b e = cc

-- of rows with known kinds each has one
pub kinds_at : (n : ℕ) (rows : List ℕ) (k : ℕ) → k < n → kinds_known n rows ≡ true → kind_known (u64_at rows (24 * k)) ≡ true
unfolding kinds_known
kinds_at zero rows k h e = absurd (not-suc-le-zero h)
kinds_at (suc n) rows k h e =
    ⊎_elim (λ q. rw q (and_right (kinds_known n rows) _ e)) (λ l. kinds_at n rows k l (and_left _ _ e)) (eq-or-lt_of_le (le_of_suc-le-suc h))

-- a known kind starts in the list: past its end every byte counts as 0, which is no kind
kind_held : (s : List ℕ) (at : ℕ) → kind_known (u64_at s at) ≡ true → at < length s
unfolding kind_known
kind_held s at e = go (ltb at (length s)) refl
  where
    go : (t : Bool) → ltb at (length s) ≡ t → at < length s
    go true q = ltb-true _ _ q
    go false q = omega (arith, leb-true 1 (u64_at s at) (and_left _ _ e), u64_past s at (ltb-false _ _ q))

-- so of rows with known kinds each starts in the list
pub kinds_held : (n : ℕ) (rows : List ℕ) → kinds_known n rows ≡ true → 24 * n < length rows + 24
unfolding kinds_known
kinds_held zero rows e = omega arith
kinds_held (suc n) rows e = omega (arith, kind_held rows (24 * n) (and_right (kinds_known n rows) _ e))

-- one row more
pub kinds_next : (n : ℕ) (rows : List ℕ) → kinds_known n rows ≡ true → kind_known (u64_at rows (24 * n)) ≡ true → kinds_known (n + 1) rows ≡ true
unfolding kinds_known
kinds_next n rows p q = ap (λ (k : ℕ). kinds_known k rows) (add-one n) ∙ ap (λ (a : Bool). a && kind_known (u64_at rows (24 * n))) p ∙ q

-- one row that has none
pub kinds_bad : (n : ℕ) (rows : List ℕ) (k : ℕ) → k < n → kind_known (u64_at rows (24 * k)) ≡ false → kinds_known n rows ≡ false
kinds_bad n rows k h e = go (kinds_known n rows) refl
  where
    go : (t : Bool) → kinds_known n rows ≡ t → kinds_known n rows ≡ false
    go true q = let z = kinds_at n rows k h q in cc
    go false q = q
