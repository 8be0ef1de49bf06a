-- A sound desk as facts, and that the test `sound` says just these on a desk of 32 rows and 8 counts. From them: a caller with fewer than four open finds
-- a row free, since 32 filled rows would be four of each of eight callers. Assumes nothing.
use mathlib.Core.Path.{◌≡◌, refl}
use mathlib.Core.Bool.{Bool, true, false, cond, ◌&&◌}
use Prim.Native.Nat.{ℕ, zero, suc, ◌≤◌, ◌<◌}
use native.Mathlib.Omega.{arith}
use lib.ListN.{length}
use lib.Dec.{leb, ltb}
use borrow.Author.Tests.{ltb-true, ltb-false, leb-true, le-leb}
use Rattle.ledger.specs.declared.Desk.{Desk}
use Rattle.ledger.specs.Search.{count}
use Rattle.ledger.specs.Rows.{most, row, counted, held, of_caller, vacant, tally, lowest, row_right, counts_right, each_right, none_shared, none_over_four, rows_right, sound}
use Rattle.ledger.proofs.Search.{and_true, not_some, upto_true, upto_each, count_zero, sum_lt, spread}
use Rattle.ledger.proofs.Tests.{held_is, of_is, is_of_lem, not_vacant, Right, right_is, is_right}
use Rattle.ledger.proofs.Changes.{lowest_true, lowest_le, some_lowest}

-- what is said of the filled rows
pub record GoodRows (d : Desk) : Type 0 where
  pub each : (i : ℕ) → i < 32 → (row d i).filled ≡ true → Right d.counts (row d i)
  pub once : (c t : ℕ) → tally (held c t) d ≤ 1
  pub four : (c : ℕ) → tally (of_caller c) d ≤ 4

pub record Good (d : Desk) : Type 0 where
  pub long : length d.rows ≡ 32
  pub wide : length d.counts ≡ 8
  pub points : d.pointer < 32
  pub few : (c : ℕ) → c < 8 → counted d c ≤ most
  pub rows : GoodRows d

if_filled : (b x : Bool) → (b ≡ true → x ≡ true) → cond b x true ≡ true
if_filled true x h = h refl
if_filled false x h = refl

filled_so : (b x : Bool) → cond b x true ≡ true → b ≡ true → x ≡ true
filled_so true x e f = e
filled_so false x e f = absurd cc

module _ (d : Desk) where
  -- ---- the facts make the test true

  pub good_rows : GoodRows d → rows_right d ≡ true
  unfolding rows_right
  good_rows g =
      rw (
        upto_true (λ i. cond (row d i).filled (row_right d.counts (row d i)) true) 32 (λ i l. if_filled (row d i).filled (row_right d.counts (row d i)) (λ f. is_right d.counts (row d i) (g.each i l f))),
        upto_true (λ i. cond (row d i).filled (leb (tally (held (row d i).caller (row d i).ticket) d) 1) true) 32 (λ i l. if_filled (row d i).filled (leb (tally (held (row d i).caller (row d i).ticket) d) 1) (λ f. le-leb _ _ (g.once (row d i).caller (row d i).ticket))),
        upto_true (λ c. leb (tally (of_caller c) d) 4) 8 (λ c l. le-leb _ _ (g.four c)),
      )

  pub good_sound : Good d → sound d ≡ true
  unfolding sound counts_right
  good_sound g =
      rw (
        le-leb d.pointer 31 (omega (arith, g.points)),
        upto_true (λ c. leb (counted d c) most) 8 (λ c l. le-leb _ _ (g.few c l)),
        good_rows g.rows,
      )

  -- ---- and the true test makes the facts

  pub counts_few : counts_right d.counts ≡ true → (c : ℕ) → c < 8 → counted d c ≤ most
  unfolding counts_right
  counts_few e c l = leb-true _ _ (upto_each (λ c. leb (counted d c) most) 8 e c l)

  -- no row is of a caller that is none of the eight, so what holds of the eight holds of all
  pub all_four : ((i : ℕ) → i < 32 → (row d i).filled ≡ true → Right d.counts (row d i)) → ((c : ℕ) → c < 8 → tally (of_caller c) d ≤ 4)
      → (c : ℕ) → tally (of_caller c) d ≤ 4
  unfolding tally
  all_four right eight c = go (ltb c 8) refl
    where
      go : (b : Bool) → ltb c 8 ≡ b → count (λ i. of_caller c (row d i)) 32 ≤ 4
      go true q = eight c (ltb-true c 8 q)
      go false q =
          omega (
            arith,
            count_zero (λ i. of_caller c (row d i)) 32 (λ i l. not_some (of_caller c (row d i)) (λ h.
                let o = of_is c (row d i) h in
                absurd (omega (arith, ltb-false c 8 q, o.1, (right i l o.0).known)))),
          )

  module _ (e : rows_right d ≡ true) where
    parts : (each_right d ≡ true) × (none_shared d ≡ true) × (none_over_four d ≡ true)
    unfolding rows_right
    parts =
        let a = and_true (each_right d) (none_shared d && none_over_four d) e in
        let b = and_true (none_shared d) (none_over_four d) a.1 in
        (a.0, b.0, b.1)

    right : (i : ℕ) → i < 32 → (row d i).filled ≡ true → Right d.counts (row d i)
    right i l f = right_is d.counts (row d i) (filled_so _ _ (upto_each _ 32 parts.0 i l) f)

    -- a ticket's rows are counted from one of them, or are none
    once : (c t : ℕ) → tally (held c t) d ≤ 1
    once c t = go (ltb 0 (tally (held c t) d)) refl
      where
        go : (b : Bool) → ltb 0 (tally (held c t) d) ≡ b → tally (held c t) d ≤ 1
        go false q = omega (arith, ltb-false 0 (tally (held c t) d) q)
        go true q = some (tally (held c t) d) refl (ltb-true 0 (tally (held c t) d) q)
          where
            some : (n : ℕ) → tally (held c t) d ≡ n → 0 < tally (held c t) d → tally (held c t) d ≤ 1
            some zero z l = omega arith
            some (suc n) z l =
                let i = lowest (held c t) d in
                let m = some_lowest (held c t) d n z in
                let o = held_is c (row d i) t (lowest_true (held c t) d m) in
                let u = leb-true (tally (held (row d i).caller (row d i).ticket) d) 1 (filled_so _ _ (upto_each (λ i. cond (row d i).filled (leb (tally (held (row d i).caller (row d i).ticket) d) 1) true) 32 parts.1 i m) o.0) in
                rw (o.1, o.2) at u

    four : (c : ℕ) → tally (of_caller c) d ≤ 4
    four = all_four right (λ c l. leb-true _ _ (upto_each _ 8 parts.2 c l))

    pub rows_good : GoodRows d
    rows_good = record { each = right; once = once; four = four }

  pub sound_good : length d.rows ≡ 32 → length d.counts ≡ 8 → sound d ≡ true → Good d
  unfolding sound
  sound_good l w e =
      let p = and_true (leb d.pointer 31) (counts_right d.counts && rows_right d) e in
      let c = and_true (counts_right d.counts) (rows_right d) p.1 in
      record {
        long = l;
        wide = w;
        points = omega (arith, leb-true d.pointer 31 p.0);
        few = counts_few c.0;
        rows = rows_good c.1;
      }

  -- ---- a row is free for one who may post

  pub free_row : GoodRows d → (c : ℕ) → c < 8 → tally (of_caller c) d < 4 → lowest vacant d < 32
  unfolding tally
  free_row g c l h = go (ltb (lowest vacant d) 32) refl
    where
      full : 32 ≤ lowest vacant d → (i : ℕ) → i < 32 → (row d i).filled ≡ true
      full k i m = not_vacant (row d i) (not_some (vacant (row d i)) (λ e. absurd (omega (arith, lowest_le vacant d i m e))))

      go : (b : Bool) → ltb (lowest vacant d) 32 ≡ b → lowest vacant d < 32
      go true e = ltb-true (lowest vacant d) 32 e
      go false e =
          let k = ltb-false (lowest vacant d) 32 e in
          let s = spread (λ c i. of_caller c (row d i)) 8 32 (λ i m. ((row d i).caller, (g.each i m (full k i m)).known, is_of_lem (row d i).caller (row d i) (full k i m) refl)) in
          let t = sum_lt (λ c. count (λ i. of_caller c (row d i)) 32) 8 c g.four l h in
          absurd (omega arith)
