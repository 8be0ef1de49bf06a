-- An array filled from its front by a loop. Assumes nothing.
use Prim.Native.Nat.{ℕ, ◌+◌, ◌<◌, ◌≤◌}
use mathlib.Core.Path.{◌≡◌, refl, sym, ap, ◌∙◌}
use mathlib.Core.List.{List, [], ◌∷◌, ◌++◌}
use native.Mathlib.Numerals.{add-one}
use lib.ListN.{length, take, set, length-set}
use lib.Seq.{take-suc-set}
use Rattle.records.specs.Records.{made}

-- the first i elements of a list of n are those that f makes
pub record Filled {A : Type 0} (f : ℕ → A) (n i : ℕ) (l : List A) : Type 0 where
  pub long : length l ≡ n
  pub front : take i l ≡ made f i

-- before the loop
pub begun : {A : Type 0} (f : ℕ → A) (n : ℕ) (l : List A) → length l ≡ n → Filled f n 0 l
unfolding made
begun f n l e = record { long = e; front = refl }

-- a turn of it
pub stored : {A : Type 0} (f : ℕ → A) (n i : ℕ) (l : List A) (x : A) → i < n → x ≡ f i → Filled f n i l → Filled f n (i + 1) (set l i x)
unfolding made
stored {A} f n i l x h e t = record {
  long = length-set l i x ∙ t.long;
  front =
      ap (λ (k : ℕ). take k (set l i x)) (add-one i)
      ∙ take-suc-set l i x (rw t.long h)
      ∙ ap (λ (y : List A). y ++ x ∷ []) t.front
      ∙ ap (λ (y : A). made f i ++ y ∷ []) e
      ∙ ap (made f) (sym (add-one i));
}
