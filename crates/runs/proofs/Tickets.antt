-- The row of a ticket, where a call that names it finds one. Assumes nothing.
use mathlib.Core.Path.{◌≡◌, refl, subst}
use mathlib.Core.Bool.{Bool, true, false, cond}
use Prim.Native.Nat.{ℕ, ◌<◌}
use native.Mathlib.Omega.{arith}
use lib.Dec.{ltb}
use borrow.Author.Tests.{ltb-true, lt-ltb}
use Rattle.ledger.specs.declared.Desk.{Desk}
use Rattle.std.specs.Prelude.{Ok, Err}
use Rattle.refusals.specs.declared.Refusal.{Refusal}
use Rattle.ledger.specs.Rows.{row, held, tally, lowest, sound}
use Rattle.runs.specs.Model.{open_of}
use Rattle.ledger.proofs.Search.{counted_once}
use Rattle.ledger.proofs.Changes.{lowest_true, lowest_le}
use Rattle.ledger.proofs.Good.{Good}

-- row i is caller c's and ticket t's
pub record Seat (d : Desk) (c t i : ℕ) : Type 0 where
  pub place : i < 32
  pub has : held c t (row d i) ≡ true

module _ (d : Desk) (c t : ℕ) where
  pub open_seat : (i : ℕ) → open_of d c t ≡ Ok i → Seat d c t i
  unfolding open_of
  open_seat i e = go (sound d) (ltb c 8) (ltb (lowest (held c t) d) 32) refl e
    where
      go : (u v w : Bool) → ltb (lowest (held c t) d) 32 ≡ w
          → cond u (cond v (cond w (Ok (lowest (held c t) d)) (Err Refusal.NotOpen)) (Err Refusal.UnknownNumber)) (Err Refusal.UnsoundDesk) ≡ Ok i → Seat d c t i
      go false v w q e = absurd cc
      go true false w q e = absurd cc
      go true true false q e = absurd cc
      go true true true q e =
          let m = ltb-true (lowest (held c t) d) 32 q in
          let s : lowest (held c t) d ≡ i = cc in
          subst (λ (j : ℕ). Seat d c t j) s (record { place = m; has = lowest_true (held c t) d m })

  -- on a sound desk a caller finds the row that is its ticket's
  pub seat_open : sound d ≡ true → c < 8 → (i : ℕ) → Seat d c t i → open_of d c t ≡ Ok (lowest (held c t) d)
  unfolding open_of
  seat_open s k i o = rw (s, lt-ltb c 8 k, lt-ltb (lowest (held c t) d) 32 (omega (arith, o.place, lowest_le (held c t) d i o.place o.has)))

-- a ticket has one row
pub one_row : (d : Desk) → Good d → (c t i j : ℕ) → i < 32 → j < 32 → held c t (row d i) ≡ true → held c t (row d j) ≡ true → i ≡ j
unfolding tally
one_row d g c t i j = counted_once (λ k. held c t (row d k)) 32 i j (g.rows.once c t)
