-- What an iterator answers over a list or over the numbers below a bound, in the words of a search below that bound. Assumes nothing.
use mathlib.Core.Path.{◌≡◌, refl, sym}
use mathlib.Core.Bool.{Bool, true, false, cond}
use mathlib.Core.List.{List}
use Prim.Native.Nat.{ℕ, ◌<◌}
use native.Mathlib.Omega.{arith}
use lib.Dec.{ltb}
use lib.ListN.{length, get_or}
use borrow.Author.Tests.{lt-ltb, le-ltb}
use Rattle.std.proofs.Common.{zero-add, Option, Some, None}
use Rattle.std.proofs.lemmas.List.FromFn.{length-range_with_len, get_or-range_with_len}
use Rattle.std.specs.Prelude.{MatchBool, MatchOption}
use Rattle.std.specs.List.{AllWithin, HoldsAt, range_with_len}
use Rattle.ledger.specs.Search.{least, count, upto}
use Rattle.ledger.proofs.Search.{upto_true, upto_fails, some_counted, count_zero, least_is, least_none}

-- of a list, each item passes
pub all_upto : (f : ℕ → Bool) (l : List ℕ) (b : Bool)
    → MatchBool b (AllWithin (λ x. f x ≡ true) l 0 (length l)) ((k : ℕ) × (k < length l) × HoldsAt (λ x. f x ≡ false) l k)
    → b ≡ upto (λ i. f (get_or l i 0)) (length l)
all_upto f l true h = sym (upto_true (λ i. f (get_or l i 0)) (length l) (λ i m. h i 0 (omega arith) m))
all_upto f l false h = sym (upto_fails (λ i. f (get_or l i 0)) (length l) h.0 h.1 (h.2 0))

module _ (f : ℕ → Bool) (n : ℕ) where
  -- a number below n passes
  at : (k : ℕ) (b : Bool) → k < n → f (get_or (range_with_len 0 n) k 0) ≡ b → f k ≡ b
  at k b m e = rw (← zero-add k, ← get_or-range_with_len 0 n k 0 m) e

  -- some number below n passes
  pub any_counted : (b : Bool)
      → MatchBool b ((k : ℕ) × (k < length (range_with_len 0 n)) × HoldsAt (λ x. f x ≡ true) (range_with_len 0 n) k) (AllWithin (λ x. f x ≡ false) (range_with_len 0 n) 0 (length (range_with_len 0 n)))
      → b ≡ ltb 0 (count f n)
  any_counted true h =
      let m : h.0 < n = omega (arith, length-range_with_len 0 n) in
      sym (lt-ltb 0 (count f n) (some_counted f n h.0 m (at h.0 true m (h.2 0))))
  any_counted false h =
      let z = count_zero f n (λ i m. at i false m (h i 0 (omega arith) (omega (arith, length-range_with_len 0 n)))) in
      sym (le-ltb 0 (count f n) (omega arith))

  -- the first number below n that passes
  pub first_least : (o : Option ℕ)
      → MatchOption o (AllWithin (λ x. f x ≡ false) (range_with_len 0 n) 0 (length (range_with_len 0 n)))
      (λ i. (i < length (range_with_len 0 n)) × HoldsAt (λ x. f x ≡ true) (range_with_len 0 n) i × AllWithin (λ x. f x ≡ false) (range_with_len 0 n) 0 i)
      → o ≡ cond (ltb (least f n) n) (Some (least f n)) None
  first_least None h =
      let e = least_none f n (λ i m. at i false m (h i 0 (omega arith) (omega (arith, length-range_with_len 0 n)))) in
      rw (le-ltb (least f n) n (omega arith)) refl
  first_least (Some i) h =
      let m : i < n = omega (arith, length-range_with_len 0 n) in
      let e = least_is f n i m (at i true m (h.1 0)) (λ j l. at j false (omega arith) (h.2 j 0 (omega arith) l)) in
      rw (e, lt-ltb i n m) refl
