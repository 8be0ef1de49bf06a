-- What a sheet that is written is made of, and what the room holds then. Assumes nothing.
use mathlib.Core.Path.{◌≡◌, refl, sym, ap, ◌∙◌}
use mathlib.Core.Bool.{Bool, true, false, ◌&&◌, cond}
use mathlib.Core.List.{List, ◌++◌}
use Prim.Native.Nat.{ℕ, ◌+◌, ◌/◌, ◌%◌, ◌≤◌, ◌<◌}
use native.Mathlib.Nat.{zero-add}
use native.Mathlib.Omega.{arith}
use lib.ListN.{length, take, drop, length-append}
use lib.Seq.{take_at}
use lib.Dec.{leb, eqb}
use borrow.Author.Tests.{leb-true, eqb-true, le-leb, eq-eqb, ne_eqb}
use Rattle.text.specs.Room.{placed}
use Rattle.text.proofs.Pieces.{whole}
use Rattle.versions.specs.Versions.{allowed, version_for}
use Rattle.sheet.specs.Rows.{kinds_known}
use Rattle.std.specs.Prelude.{Result, Ok, Err}
use Rattle.refusals.specs.declared.Refusal.{Refusal}
use Rattle.refusals.specs.Refusals.{number_of, number_in}
use Rattle.sheet_writer.specs.Write.{sheet_of, write_of, room_of}
use Rattle.versions.proofs.VersionLaws.{allowed_small}
use Rattle.sheet.proofs.RowLaws.{and_left, and_right}

not_length : (refusal : Refusal) (m : ℕ) → Err refusal ≡ Ok m → ⊥
not_length refusal m e = cc

shape : (a b d e : Bool) (k m : ℕ)
    → cond a (cond b (cond d (cond e (Ok k) (Err Refusal.ShortRoom)) (Err Refusal.RowKind)) (Err Refusal.Layout)) (Err Refusal.RowCount) ≡ Ok m
    → (a ≡ true) × (b ≡ true) × (d ≡ true) × (e ≡ true) × (k ≡ m)
shape true true true true k m q = (refl, refl, refl, refl, cc)
shape true true true false k m q = absurd (not_length Refusal.ShortRoom m q)
shape true true false e k m q = absurd (not_length Refusal.RowKind m q)
shape true false d e k m q = absurd (not_length Refusal.Layout m q)
shape false b d e k m q = absurd (not_length Refusal.RowCount m q)

-- what is so of a note and rows' bytes that are written, as a sheet of m bytes
pub record Written (note rows : List ℕ) (room m : ℕ) : Type 0 where
  pub few : allowed (version_for (length rows / 24)) (length rows / 24) ≡ true
  pub short_note : length note ≤ 4096
  pub whole_rows : length rows % 24 ≡ 0
  pub kinds : kinds_known (length rows / 24) rows ≡ true
  pub fits : length note + length rows + 16 ≤ room
  pub size : length note + length rows + 16 ≡ m

pub written : (note rows : List ℕ) (room m : ℕ) → write_of note rows room ≡ Ok m → Written note rows room m
unfolding write_of
written note rows room m e =
    let n = length rows / 24 in
    let k = length note + length rows + 16 in
    let p = shape (allowed (version_for n) n) (leb (length note) 4096 && eqb (length rows % 24) 0) (kinds_known n rows) (leb k room) k m e in
    record {
      few = p.0;
      short_note = leb-true _ _ (and_left _ (eqb (length rows % 24) 0) p.1);
      whole_rows = eqb-true _ _ (and_right (leb (length note) 4096) _ p.1);
      kinds = p.2;
      fits = leb-true _ _ p.3;
      size = p.4;
    }

pub writes : (note rows : List ℕ) (room m : ℕ) → Written note rows room m → write_of note rows room ≡ Ok m
unfolding write_of
writes note rows room m w =
    simp (w.few, le-leb _ _ w.short_note, eq-eqb _ _ w.whole_rows, w.kinds, le-leb _ _ w.fits) (ap (λ (k : ℕ). Ok k) w.size)

-- so few rows are few bytes
pub written_small : (note rows : List ℕ) (room m : ℕ) → Written note rows room m → length rows ≤ 60000
written_small note rows room m w = omega (arith, allowed_small (version_for (length rows / 24)) (length rows / 24) w.few, w.whole_rows)

-- ---- the room afterwards

pub sheet_length : (note rows : List ℕ) → length (sheet_of note rows) ≡ length note + length rows + 16
unfolding sheet_of
sheet_length note rows = simp length-append

-- a sheet that is written stands at the front, and behind it what was there
pub room_sheet : (note rows out : List ℕ) (m : ℕ) → write_of note rows (length out) ≡ Ok m → room_of note rows out ≡ sheet_of note rows ++ drop m out
unfolding room_of
room_sheet note rows out m e =
    let s = sheet_of note rows in
    ap (λ (w : Result ℕ Refusal). cond (eqb (number_in w) 0) (s ++ drop (length s) out) out) e
    ∙ ap (λ (k : ℕ). s ++ drop k out) (sheet_length note rows ∙ (written note rows (length out) m e).size)

pub sheet_in_front : (note rows out : List ℕ) (m : ℕ) → write_of note rows (length out) ≡ Ok m → take m (room_of note rows out) ≡ sheet_of note rows
sheet_in_front note rows out m e =
    let s = sheet_of note rows in
    ap (take m) (room_sheet note rows out m e) ∙ take_at s (drop m out) m (sheet_length note rows ∙ (written note rows (length out) m e).size)

-- which is what placing it there leaves, since it fits
pub room_written : (note rows out : List ℕ) (m : ℕ) → write_of note rows (length out) ≡ Ok m → placed out 0 (sheet_of note rows) ≡ room_of note rows out
room_written note rows out m e =
    let s = sheet_of note rows in
    let w = written note rows (length out) m e in
    let size : length s ≡ m = sheet_length note rows ∙ w.size in
    whole out 0 s (omega (arith, w.fits, sheet_length note rows))
    ∙ ap (λ (k : ℕ). s ++ drop k out) (zero-add (length s) ∙ size)
    ∙ sym (room_sheet note rows out m e)

-- and a refusal has a number, so all is as it was
refused : (a b d e : Bool) (k : ℕ) (refusal : Refusal)
    → cond a (cond b (cond d (cond e (Ok k) (Err Refusal.ShortRoom)) (Err Refusal.RowKind)) (Err Refusal.Layout)) (Err Refusal.RowCount) ≡ Err refusal
    → eqb (number_of refusal) 0 ≡ false
refused true true true true k refusal q = absurd (not_length refusal k (sym q))
refused true true true false k refusal q = ap (λ (w : Result ℕ Refusal). eqb (number_in w) 0) (sym q)
refused true true false e k refusal q = ap (λ (w : Result ℕ Refusal). eqb (number_in w) 0) (sym q)
refused true false d e k refusal q = ap (λ (w : Result ℕ Refusal). eqb (number_in w) 0) (sym q)
refused false b d e k refusal q = ap (λ (w : Result ℕ Refusal). eqb (number_in w) 0) (sym q)

pub refused_number : (note rows : List ℕ) (room : ℕ) (refusal : Refusal) → write_of note rows room ≡ Err refusal → eqb (number_of refusal) 0 ≡ false
unfolding write_of
refused_number note rows room refusal e =
    let n = length rows / 24 in
    let k = length note + length rows + 16 in
    refused (allowed (version_for n) n) (leb (length note) 4096 && eqb (length rows % 24) 0) (kinds_known n rows) (leb k room) k refusal e

pub room_refused : (note rows out : List ℕ) (refusal : Refusal) → write_of note rows (length out) ≡ Err refusal → out ≡ room_of note rows out
unfolding room_of
room_refused note rows out refusal e =
    let s = sheet_of note rows in
    sym (ap (λ (w : Result ℕ Refusal). cond (eqb (number_in w) 0) (s ++ drop (length s) out) out) e
    ∙ ap (λ (b : Bool). cond b (s ++ drop (length s) out) out) (refused_number note rows (length out) refusal e))

-- the same by the number: a refused writing leaves the room as it was
pub refused_keeps : (note rows out : List ℕ) → 0 < number_in (write_of note rows (length out)) → room_of note rows out ≡ out
unfolding room_of
refused_keeps note rows out h = rw (ne_eqb (number_in (write_of note rows (length out))) 0 (λ e. omega (arith, h, e))) refl
