-- What is printed of a note and rows, by what writing them answers. Assumes nothing.
use Prim.Native.Nat.{ℕ, ◌-◌, min}
use native.Mathlib.Omega.{arith}
use mathlib.Core.Path.{◌≡◌, sym, ap, subst, ◌∙◌}
use mathlib.Core.List.{List, ◌++◌, append_assoc}
use lib.ListN.{length, take, drop, length-append, length-drop}
use lib.Seq.{take_at, take-length}
use Rattle.std.proofs.Common.{Ok, Err}
use Rattle.text.specs.Room.{Whole}
use Rattle.refusals.specs.Refusals.{number_of}
use Rattle.refusals.specs.declared.Refusal.{Refusal}
use Rattle.sheet_writer.specs.Write.{sheet_of, write_of, room_of}
use Rattle.sheet_writer.proofs.WriteLaws.{written, sheet_length, room_sheet, room_refused}
use Rattle.words.specs.Words.{word_of}
use Rattle.row_lines.specs.Lines.{refused_line}
use Rattle.listing.specs.Listings.{longest}
use Rattle.written.specs.Written.{note_end, answer_text, written_text}

-- a sheet that is written stands whole at the front of its room, whatever lies behind that
sheet_whole : (note rows out more : List ℕ) (m : ℕ) → write_of note rows (length out) ≡ Ok m → Whole (room_of note rows out ++ more) (sheet_of note rows) m
sheet_whole note rows out more m e =
    let s = sheet_of note rows in
    let size : length s ≡ m = sheet_length note rows ∙ (written note rows (length out) m e).size in
    let room = ap (λ (l : List ℕ). l ++ more) (room_sheet note rows out m e) ∙ append_assoc s (drop m out) more in
    record {
      inside = omega (arith, size, ap length room, length-append s (drop m out ++ more));
      text = ap (take m) room ∙ take_at s (drop m out ++ more) m size;
    }

-- the same of what was answered: the room of so many bytes is the front part of a longer one
pub answered : (note rows out more : List ℕ) {o : List ℕ} {most m : ℕ} → length out ≡ most → Ok m ≡ write_of note rows (length out) → o ≡ room_of note rows out
    → Whole (o ++ more) (answer_text note rows (write_of note rows most)) m
unfolding answer_text
answered note rows out more {o} {most} {m} size answer room =
    let text = ap (answer_text note rows) answer ∙ ap (λ (k : ℕ). answer_text note rows (write_of note rows k)) size in
    subst (λ (t : List ℕ). Whole (o ++ more) t m) text
    (subst (λ (l : List ℕ). Whole (l ++ more) (sheet_of note rows) m) (sym room) (sheet_whole note rows out more m (sym answer)))

-- of a refused one `refused N` is said
pub refusal : (note rows out : List ℕ) {why : Refusal} {most again : ℕ} → length out ≡ most → Err why ≡ write_of note rows (length out) → again ≡ number_of why
    → refused_line again ≡ answer_text note rows (write_of note rows most)
unfolding answer_text
refusal note rows out size answer told =
    ap refused_line told ∙ ap (answer_text note rows) answer ∙ ap (λ (k : ℕ). answer_text note rows (write_of note rows k)) size

-- and then its room is as it was
pub room_kept : (note rows out : List ℕ) {o : List ℕ} {why : Refusal} → Err why ≡ write_of note rows (length out) → o ≡ room_of note rows out → o ≡ out
room_kept note rows out {o} {why} answer room = room ∙ sym (room_refused note rows out why (sym answer))

-- what is given, taken apart: the note, the rows behind it, and the room
pub apart : (s rest : List ℕ) (end most : ℕ) → rest ≡ drop 16 s → end ≡ min (word_of s 0) (length rest) → most ≡ min (word_of s 1) longest
    → (let note = take end rest in let rows = take (length rest - end) (drop end rest) in answer_text note rows (write_of note rows most)) ≡ written_text s
apart s rest end most e f g =
    ap (λ (rows : List ℕ). answer_text (take end rest) rows (write_of (take end rest) rows most)) (ap (λ (n : ℕ). take n (drop end rest)) (sym (length-drop end rest)) ∙ take-length (drop end rest))
    ∙ ap (λ (l : List ℕ). answer_text (take end l) (drop end l) (write_of (take end l) (drop end l) most)) e
    ∙ ap (λ (n : ℕ). answer_text (take n (drop 16 s)) (drop n (drop 16 s)) (write_of (take n (drop 16 s)) (drop n (drop 16 s)) most)) (f ∙ ap (λ (l : List ℕ). min (word_of s 0) (length l)) e)
    ∙ ap (λ (n : ℕ). answer_text (take (note_end s) (drop 16 s)) (drop (note_end s) (drop 16 s)) (write_of (take (note_end s) (drop 16 s)) (drop (note_end s) (drop 16 s)) n)) g
