-- What the tests on a row say, as facts, and back. Assumes nothing.
use mathlib.Core.Path.{◌≡◌, refl, sym, ◌∙◌}
use mathlib.Core.Logic.{◌≢◌}
use mathlib.Core.Bool.{Bool, true, false, ◌&&◌}
use mathlib.Core.List.{List}
use Prim.Native.Nat.{ℕ, ◌≤◌, ◌<◌}
use lib.Dec.{leb, ltb, eqb}
use lib.ListN.{get_or}
use borrow.Author.Tests.{ltb-true, leb-true, eqb-true, not-true, not-false, lt-ltb, le-leb, eq-eqb}
use Rattle.ledger.specs.declared.Row.{Row}
use Rattle.ledger.specs.Rows.{nameable, held, of_caller, vacant, unfinished, between, row_right}
use Rattle.ledger.proofs.Search.{and_true, not_some}

module _ (c : ℕ) (r : Row) where
  pub of_is : of_caller c r ≡ true → (r.filled ≡ true) × (r.caller ≡ c)
  unfolding of_caller
  of_is e = let b = and_true r.filled (eqb r.caller c) e in (b.0, eqb-true r.caller c b.1)

  pub is_of_lem : r.filled ≡ true → r.caller ≡ c → of_caller c r ≡ true
  unfolding of_caller
  is_of_lem f e = rw (f, eq-eqb r.caller c e)

  pub of_empty : r.filled ≡ false → of_caller c r ≡ false
  unfolding of_caller
  of_empty e = rw e

  pub of_other : r.caller ≢ c → of_caller c r ≡ false
  of_other n = not_some (of_caller c r) (λ e. n (of_is e).1)

  module _ (t : ℕ) where
    pub held_is : held c t r ≡ true → (r.filled ≡ true) × (r.caller ≡ c) × (r.ticket ≡ t)
    unfolding held
    held_is e =
        let a = and_true r.filled (eqb r.caller c && eqb r.ticket t) e in
        let b = and_true (eqb r.caller c) (eqb r.ticket t) a.1 in
        (a.0, eqb-true r.caller c b.0, eqb-true r.ticket t b.1)

    pub is_held : r.filled ≡ true → r.caller ≡ c → r.ticket ≡ t → held c t r ≡ true
    unfolding held
    is_held f e q = rw (f, eq-eqb r.caller c e, eq-eqb r.ticket t q)

    pub held_of : held c t r ≡ true → of_caller c r ≡ true
    held_of e = let h = held_is e in is_of_lem h.0 h.1

    pub held_empty : r.filled ≡ false → held c t r ≡ false
    unfolding held
    held_empty e = rw e

    pub held_other : r.caller ≢ c → held c t r ≡ false
    held_other n = not_some (held c t r) (λ e. n (held_is e).1)

    pub held_later : r.ticket ≢ t → held c t r ≡ false
    held_later n = not_some (held c t r) (λ e. n (held_is e).2)

module _ (r : Row) where
  pub unfinished_is : unfinished r ≡ true → (r.filled ≡ true) × (r.halvings < r.number)
  unfolding unfinished
  unfinished_is e = let b = and_true r.filled (ltb r.halvings r.number) e in (b.0, ltb-true r.halvings r.number b.1)

  pub is_unfinished : r.filled ≡ true → r.halvings < r.number → unfinished r ≡ true
  unfolding unfinished
  is_unfinished e h = rw (e, lt-ltb r.halvings r.number h)

  pub vacant_is : vacant r ≡ true → r.filled ≡ false
  unfolding vacant
  vacant_is e = not-true r.filled e

  pub not_vacant : vacant r ≡ false → r.filled ≡ true
  unfolding vacant
  not_vacant e = not-false r.filled e

-- a number of halvings that a post may name
pub named : (n : ℕ) → nameable n ≡ true → (10 ≤ n) × (n ≤ 50)
unfolding nameable
named n e = let b = and_true (leb 10 n) (leb n 50) e in (leb-true 10 n b.0, leb-true n 50 b.1)

pub is_named : (n : ℕ) → 10 ≤ n → n ≤ 50 → nameable n ≡ true
unfolding nameable
is_named n l h = rw (le-leb 10 n l, le-leb n 50 h) refl

-- a filled row that is right by itself
pub record Right (counts : List ℕ) (r : Row) : Type 0 where
  pub known : r.caller < 8
  pub given : r.ticket < get_or counts r.caller 0
  pub region_low : 1 ≤ r.region
  pub region_high : r.region ≤ 2
  pub kind_low : 2 ≤ r.kind
  pub kind_high : r.kind ≤ 3
  pub number_low : 10 ≤ r.number
  pub number_high : r.number ≤ 50
  pub within : r.halvings ≤ r.number

module _ (counts : List ℕ) (r : Row) where
  pub right_is : row_right counts r ≡ true → Right counts r
  unfolding row_right
  right_is e =
      let c = and_true (ltb r.caller 8) _ e in
      let t = and_true (ltb r.ticket (get_or counts r.caller 0)) _ c.1 in
      let g = and_true (between 1 2 r.region) _ t.1 in
      let g' = and_true (leb 1 r.region) _ g.0 in
      let k = and_true (between 2 3 r.kind) _ g.1 in
      let k' = and_true (leb 2 r.kind) _ k.0 in
      let n = and_true (nameable r.number) _ k.1 in
      let n' = named r.number n.0 in
      record {
        known = ltb-true _ _ c.0;
        given = ltb-true _ _ t.0;
        region_low = leb-true _ _ g'.0;
        region_high = leb-true _ _ g'.1;
        kind_low = leb-true _ _ k'.0;
        kind_high = leb-true _ _ k'.1;
        number_low = n'.0;
        number_high = n'.1;
        within = leb-true _ _ n.1;
      }

  -- what the code is told of it
  pub told_right : (b : Bool) → b ≡ row_right counts r → b ≡ true → Right counts r
  told_right b a n = right_is (sym a ∙ n)

  pub is_right : Right counts r → row_right counts r ≡ true
  unfolding row_right
  is_right f =
      simp (
        lt-ltb _ _ f.known,
        lt-ltb _ _ f.given,
        le-leb _ _ f.region_low,
        le-leb _ _ f.region_high,
        le-leb _ _ f.kind_low,
        le-leb _ _ f.kind_high,
        is_named r.number f.number_low f.number_high,
        le-leb _ _ f.within,
      )
