-- On a sound desk, whether a run led to it or not, the calls that name a ticket and the turn that comes to its row go by what that row holds; and a turn idles
-- just where no row has halvings to go. Assumes nothing.
use mathlib.Core.Path.{◌≡◌, refl, ap, ◌∙◌, subst}
use mathlib.Core.Bool.{Bool, true, false, cond, ◌&&◌}
use mathlib.Core.List.{[], ◌∷◌}
use Prim.Native.Nat.{ℕ, ◌+◌, ◌%◌, ◌≤◌, ◌<◌}
use native.Mathlib.Omega.{arith}
use lib.Dec.{ltb}
use borrow.Author.Tests.{le-ltb, lt-ltb}
use Rattle.ledger.specs.declared.Desk.{Desk}
use Rattle.runs.specs.declared.Answer.TheVariants.{Halved, Idle}
use Rattle.std.specs.Prelude.{Result, Ok}
use Rattle.refusals.specs.declared.Refusal.{Refusal}
use Rattle.ledger.specs.Rows.{row, held, unfinished, onward, lowest}
use Rattle.runs.specs.Answers.{whole, kelvin, state, Tells}
use Rattle.runs.specs.Model.{answers, query_of, settle, halved_row, next, past, turned_at, turn_of, open_of, emptied, peek_at, collect_at, withdraw_at, peek_of, collect_of, withdraw_of}
use Rattle.ledger.proofs.Search.{and_true, least_le, least_none}
use Rattle.ledger.proofs.Tests.{held_is}
use Rattle.ledger.proofs.Changes.{row_here, row_else}
use Rattle.ledger.proofs.Good.{Good, good_sound}
use Rattle.runs.proofs.Tickets.{open_seat, seat_open, one_row}
use Rattle.runs.proofs.Halved.{halved_once}
use Rattle.runs.proofs.Round.{ahead, ahead_lt, ahead_back}
use Rattle.runs.specs.Runs.{turn, peek, collect, withdraw, step, goes_to, HalvedOnce}

module _ (d : Desk) (g : Good d) where
  -- whether the k-th row from the pointer on has halvings to go
  abbrev to_go : ℕ → Bool
  to_go k = unfinished (row d ((d.pointer + k) % 32))

  -- a turn where some row has, and where none has
  pub busy : (i : ℕ) → i < 32 → unfinished (row d i) ≡ true → (step d turn).answer ≡ Ok Halved
  unfolding turn_of onward
  busy i place u =
      let k = ahead d.pointer i in
      let near : k < 32 = ahead_lt d.pointer i in
      let first = least_le to_go 32 k near (rw (ahead_back d.pointer i g.points place) u) in
      rw (good_sound d g, lt-ltb (next d) 32 (omega arith))

  pub idle : ((i : ℕ) → i < 32 → unfinished (row d i) ≡ false) → ((step d turn).answer ≡ Ok Idle) × ((step d turn).desk ≡ d)
  unfolding turn_of onward
  idle none = rw (good_sound d g, least_none to_go 32 (λ k l. none ((d.pointer + k) % 32) (omega arith))) (refl, refl)

-- row i is that of caller c's ticket t
module _ (d : Desk) (g : Good d) (c t i : ℕ) (place : i < 32) (has : held c t (row d i) ≡ true) where
  known : c < 8
  known = let o = held_is c (row d i) t has in omega (arith, o.1, (g.rows.each i place o.0).known)

  -- the row that a search for the ticket finds is this one
  opened : open_of d c t ≡ Ok i
  opened =
      let e = seat_open d c t (good_sound d g) known i (record { place = place; has = has }) in
      let s = open_seat d c t (lowest (held c t) d) e in
      e ∙ ap {B = Result ℕ Refusal} (λ (n : ℕ). Ok n) (one_row d g c t (lowest (held c t) d) i s.place place s.has has)

  pub peek_row : Tells (step d (peek c t)) 0 (whole (row d i).halvings ∷ kelvin (row d i).lo ∷ kelvin (row d i).hi ∷ []) d
  unfolding peek_of peek_at
  peek_row = rw opened (record { number = refl; values = refl; leaves = refl })

  pub collect_row : (row d i).number ≤ (row d i).halvings
      → Tells (step d (collect c t)) 0
      (state (settle (query_of (row d i)) (record { lo = (row d i).lo; hi = (row d i).hi })) ∷ whole (row d i).number ∷ kelvin (row d i).lo ∷ kelvin (row d i).hi ∷ [])
      (emptied d i)
  unfolding collect_of collect_at
  collect_row h = rw (opened, le-ltb (row d i).halvings (row d i).number h) (record { number = refl; values = refl; leaves = refl })

  pub early_row : (row d i).halvings < (row d i).number → Tells (step d (collect c t)) 12 [] d
  unfolding collect_of collect_at
  early_row h = rw (opened, lt-ltb (row d i).halvings (row d i).number h) (record { number = refl; values = refl; leaves = refl })

  pub withdraw_row : Tells (step d (withdraw c t)) 0 [] (emptied d i)
  unfolding withdraw_of withdraw_at
  withdraw_row = rw opened (record { number = refl; values = refl; leaves = refl })

  -- the turn that comes to the row
  pub turn_row : goes_to c t d turn ≡ true → ((step d turn).answer ≡ Ok Halved) × HalvedOnce (row d i) (row (step d turn).desk i)
  unfolding turn_of
  turn_row e =
      let o = and_true (ltb (next d) 32) (held c t (row d ((d.pointer + next d) % 32))) e in
      let here : (d.pointer + next d) % 32 ≡ i = one_row d g c t ((d.pointer + next d) % 32) i (omega arith) place o.1 has in
      rw (good_sound d g, o.0, here, row_here d i (halved_row (row d i)) d.counts (past i) g.long place) (refl, halved_once (row d i))

  -- and one that does not
  pub pass_row : goes_to c t d turn ≡ false → row (step d turn).desk i ≡ row d i
  unfolding turn_of
  pass_row e = rw (good_sound d g) (go (ltb (next d) 32) e)
    where
      j : ℕ
      j = (d.pointer + next d) % 32

      go : (b : Bool) → b && held c t (row d j) ≡ false → row (cond b (answers Halved (turned_at d j)) (answers Idle d)).desk i ≡ row d i
      go false q = refl
      go true q =
          row_else d j (halved_row (row d j)) d.counts (past j) i (λ same.
          let h = subst (λ (n : ℕ). held c t (row d n) ≡ true) same has in
          absurd cc)
