-- What the calls read of a desk, against the definitions. Assumes nothing.
use mathlib.Core.Path.{◌≡◌, refl, sym}
use mathlib.Core.Bool.{Bool, true, false, cond}
use Prim.Native.Nat.{ℕ, ◌+◌, ◌%◌, ◌<◌}
use native.Mathlib.Omega.{arith}
use borrow.Author.Tests.{lt-ltb, ltb-true, leb-true}
use lib.Dec.{leb, ltb}
use lib.ListN.{get_or, length}
use mir.Syntax.{w64}
use mir.Val.{Fits}
use Rattle.std.specs.Prelude.{Some, None, Ok}
use Rattle.ledger.specs.declared.Row.{Row}
use Rattle.ledger.specs.declared.Desk.{Desk}
use Rattle.runs.specs.declared.Answer.TheVariants as Answer
use Rattle.ledger.specs.Rows.{row, tally, of_caller, vacant, lowest, unfinished, counts_right, rows_right, sound, put, found}
use Rattle.runs.specs.Model.{known, answers, halved_row, next, past, turn_of, open_of}
use Rattle.ledger.proofs.Tests.{unfinished_is}
use Rattle.ledger.proofs.Changes.{onward_true}
use Rattle.ledger.proofs.Good.{rows_good, free_row}
use Rattle.ledger.proofs.Search.{and_true}
use Rattle.ledger.proofs.Lists.{row_read}
use Rattle.runs.proofs.Posts.{known_is}
use Rattle.runs.proofs.Tickets.{open_seat}

-- a search that found a place, and one that has to
module _ (n : ℕ) where
  pub found_at : (k : ℕ) → Some k ≡ found n → (k ≡ n) × (k < 32)
  found_at k = go (ltb n 32) refl
    where
      go : (b : Bool) → ltb n 32 ≡ b → Some k ≡ cond b (Some n) None → (k ≡ n) × (k < 32)
      go true q e = let same : k ≡ n = cc in (same, omega (arith, ltb-true n 32 q))
      go false q e = absurd cc

  pub found_some : n < 32 → found n ≡ Some n
  found_some h = rw (lt-ltb n 32 h) refl

-- a sound desk
module _ (d : Desk) (s : sound d ≡ true) where
  -- the pointer is one of its rows, and a place counted from there fits
  pub points : (k : ℕ) → k < 32 → Fits w64 (d.pointer + k)
  unfolding sound
  points k h = omega (arith, leb-true d.pointer 31 (and_true (leb d.pointer 31) _ s).0)

  -- a row is free for a caller with fewer than four open
  pub free : (caller n : ℕ) → caller < 8 → n ≡ tally (of_caller caller) d → n < 4 → lowest vacant d < 32
  unfolding sound
  free caller n l e h =
      let r = and_true (counts_right d.counts) (rows_right d) (and_true (leb d.pointer 31) _ s).1 in
      free_row d (rows_good d r.1) caller l (rw e at h)

-- a caller that a post may name is one of eight
pub caller_known : (caller kind number : ℕ) → known caller kind number ≡ true → caller < 8
caller_known caller kind number e = (known_is caller kind number e).who

-- the row of a ticket is one of the desk's
pub inside : (d : Desk) (c t i : ℕ) → Ok i ≡ open_of d c t → i < 32
inside d c t i e = (open_seat d c t i (sym e)).place

-- r stands past the end of the rows
module _ (d : Desk) (long : length d.rows ≡ 32) (i : ℕ) (r : Row) where
  abbrev here : Row
  here = get_or d.rows i r

  pub turn_halves : (s : Row) → sound d ≡ true → next d < 32 → (d.pointer + next d) % 32 ≡ i → s ≡ halved_row here
      → answers Answer.Halved (put d i s d.counts (past i)) ≡ turn_of d
  unfolding turn_of
  turn_halves s e l q h = rw (e, lt-ltb (next d) 32 l, q, row_read d long i r (omega arith), h)

  -- the row that a turn takes has halvings to go
  pub turn_goes_on : next d < 32 → (d.pointer + next d) % 32 ≡ i → here.halvings < here.number
  turn_goes_on l q =
      let u = (unfinished_is (row d i) (rw q at (onward_true unfinished d d.pointer l))).1 in
      rw (row_read d long i r (omega arith)) at u
