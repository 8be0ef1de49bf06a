-- A job's pace: whatever anyone calls, the row of a ticket keeps its query and its number and holds as many halvings of the bracket that it had as it has counted
-- since, and each 32 turns bring one more. Said without a subtraction: turns and the way still ahead of the pointer are at most 32 for each halving, and 31.
-- Assumes nothing.
use mathlib.Core.Path.{◌≡◌, refl, sym, ap, ◌∙◌}
use mathlib.Core.Bool.{true, cond}
use Prim.Native.Nat.{ℕ, suc, ◌+◌, ◌%◌, ◌*◌, ◌≤◌, ◌<◌}
use native.Mathlib.Omega.{arith}
use native.Mathlib.Numerals.{add-one}
use lib.ListN.{set}
use Rattle.brackets.specs.Brackets.{times}
use Rattle.brackets.specs.declared.Bracket.{Bracket}
use Rattle.ledger.specs.declared.Row.{Row}
use Rattle.ledger.specs.declared.Desk.{Desk}
use Rattle.ledger.specs.Rows.{blank, row, counted, held, vacant, unfinished, lowest}
use Rattle.runs.specs.Model.{fresh, Query, query_of, bracket_of, halve, halved_row, next, past, turned_at}
use Rattle.ledger.proofs.Tests.{held_is, held_empty, unfinished_is, is_unfinished}
use Rattle.runs.proofs.Halved.{held_halved}
use Rattle.ledger.proofs.Changes.{row_each, counts_each, onward_true, onward_le}
use Rattle.ledger.proofs.Good.{Good}
use Rattle.runs.specs.Runs.{Call, step, is_turn}
use Rattle.runs.proofs.Round.{ahead, ahead_lt, ahead_back, ahead_next}
use Rattle.runs.proofs.Posts.{Job}
use Rattle.runs.proofs.Kept.{Effect, kept, idled, turned, seated, freed, effect, held_fresh, seat_free, counts_wide}

-- a row of job j, `age` turns after `done` halvings were done and left the job's bracket: it has had `more` since
pub record Fits (j : Job) (done age pointer i : ℕ) (r : Row) : Type 0 where
  pub more : ℕ
  pub counts : r.halvings ≡ done + more
  pub same : query_of r ≡ j.query
  pub number_posted : r.number ≡ j.number
  pub halved_to : bracket_of r ≡ times (halve j.query) more j.bracket
  pub pace : r.halvings < r.number → age + ahead pointer i ≤ 32 * more + 31

-- caller c's ticket t was given, and where it is open its row is one of job j
pub record Tracked (c t : ℕ) (j : Job) (done age : ℕ) (d : Desk) : Type 0 where
  pub mine : t < counted d c
  pub fits : (i : ℕ) → i < 32 → held c t (row d i) ≡ true → Fits j done age d.pointer i (row d i)

abbrev pub aged : Call → ℕ → ℕ
aged x a = cond (is_turn x) (suc a) a

-- the first unfinished row is no farther ahead than any unfinished one
next_le : (d : Desk) → Good d → (i : ℕ) → i < 32 → unfinished (row d i) ≡ true → next d ≤ ahead d.pointer i
next_le d g i l u = onward_le unfinished d d.pointer (ahead d.pointer i) (ahead_lt d.pointer i) (rw (ahead_back d.pointer i g.points l) u)

fits_halved : (j : Job) (done a p i q : ℕ) (r : Row) → r.halvings < r.number → Fits j done a p i r → Fits j done (suc a) q i (halved_row r)
unfolding times halved_row
fits_halved j done a p i q r h f = record {
  more = f.more + 1;
  counts = omega (arith, f.counts);
  same = f.same;
  number_posted = f.number_posted;
  halved_to =
      ap (λ (v : Query). halve v (bracket_of r)) f.same ∙ ap (λ (b : Bracket). halve j.query b) f.halved_to
      ∙ ap (λ (n : ℕ). times (halve j.query) n j.bracket) (sym (add-one f.more));
  pace = λ s. omega (arith, f.pace h, ahead_lt q i);
}

tracked_turned : (c t : ℕ) (j : Job) (done a : ℕ) (d : Desk) → Good d → Tracked c t j done a d → next d < 32 → Tracked c t j done (suc a) (turned_at d ((d.pointer + next d) % 32))
tracked_turned c t j done a d g o h = record {
  mine = o.mine;
  fits = row_each d place (halved_row (row d place)) d.counts (past place) (λ i r. held c t r ≡ true → Fits j done (suc a) (past place) i r) g.long (omega arith)
      (λ e. fits_halved j done a d.pointer place (past place) (row d place) (unfinished_is (row d place) (onward_true unfinished d d.pointer h)).1
      (o.fits place (omega arith) (rw (held_halved c (row d place) t) at e)))
      (λ i l ne e.
      let f = o.fits i l e in
      record {
        more = f.more;
        counts = f.counts;
        same = f.same;
        number_posted = f.number_posted;
        halved_to = f.halved_to;
        pace = λ s.
            let u = is_unfinished (row d i) (held_is c (row d i) t e).0 s in
            omega (arith, f.pace s, ahead_next d.pointer i (next d) g.points l (next_le d g i l u) ne);
      });
}
  where
    place : ℕ
    place = (d.pointer + next d) % 32

tracked_effect : (c t : ℕ) (j : Job) (done a : ℕ) (d e : Desk) (x : Call) → Good d → Tracked c t j done a d → Effect d x e → Tracked c t j done (aged x a) e
tracked_effect c t j done a d e x g o (kept y h) = rw h o
tracked_effect c t j done a d e x g o (idled h) = record {
  mine = o.mine;
  fits = λ i l q.
      let f = o.fits i l q in
      record {
        more = f.more;
        counts = f.counts;
        same = f.same;
        number_posted = f.number_posted;
        halved_to = f.halved_to;
        pace = λ s. absurd (omega (arith, next_le d g i l (is_unfinished (row d i) (held_is c (row d i) t q).0 s), ahead_lt d.pointer i));
      };
}
tracked_effect c t j done a d e x g o (turned h) = tracked_turned c t j done a d g o h
tracked_effect c t j done a d e x g o (seated c' k p y number j' w r) = record {
  mine = omega (arith, o.mine, counts_each d.counts c' (counted d c' + 1) (λ i v. counted d i ≤ v) (counts_wide d g c' k p y number j' w) (omega arith) (λ i q. omega arith) c);
  fits = row_each d (lowest vacant d) (fresh c' (counted d c') j'.query j'.number j'.bracket) (set d.counts c' (counted d c' + 1)) d.pointer
      (λ i r. held c t r ≡ true → Fits j done a d.pointer i r) g.long (seat_free d g c' k p y number j' w)
      (λ q.
      let s = held_fresh c t c' (counted d c') j' q in
      let z = ap (λ (v : ℕ). counted d v) s.0 in
      absurd (omega (arith, o.mine)))
      (λ i l ne q. o.fits i l q);
}
tracked_effect c t j done a d e x g o (freed y h c' t' w i s) = rw h (record {
  mine = o.mine;
  fits = row_each d i blank d.counts d.pointer (λ k r. held c t r ≡ true → Fits j done a d.pointer k r) g.long s.place
      (λ q. absurd (let n = held_empty c blank t refl in cc))
      (λ k m ne q. o.fits k m q);
})

pub tracked_step : (c t : ℕ) (j : Job) (done a : ℕ) (d : Desk) (x : Call) → Good d → Tracked c t j done a d → Tracked c t j done (aged x a) (step d x).desk
tracked_step c t j done a d x g o = tracked_effect c t j done a d (step d x).desk x g o (effect d g x)
