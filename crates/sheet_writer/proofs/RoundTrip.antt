-- A written sheet reads back as its note and rows (`reads_back`), and a sheet that reads is written again as the same bytes (`writes_again`). Of the
-- versions both use VersionLaws alone, so they hold for whatever versions there are. Assumes nothing.
use mathlib.Core.Path.{◌≡◌, refl, sym, ap, subst, ◌∙◌}
use mathlib.Core.Bool.{Bool, true, cond}
use mathlib.Core.List.{List, ◌++◌, append_assoc}
use Prim.Native.Nat.{ℕ, ◌+◌, ◌-◌, ◌*◌, ◌/◌, ◌≤◌, ◌<◌}
use native.Mathlib.Nat.{add-zero}
use native.Mathlib.Omega.{arith}
use lib.ListN.{length, take, drop, length-append, length-drop, take-append-drop, drop_of_length-le}
use lib.Seq.{take_at, length-take-le, drop-drop, take-append_seam, drop-append_seam}
use borrow.Author.Tests.{le-ltb, le-leb, eq-eqb}
use Rattle.words.specs.Words.{u32_at, u32_bytes}
use Rattle.versions.specs.Versions.{known, allowed, version_for}
use Rattle.sheet.specs.Rows.{kinds_known}
use Rattle.sheet.specs.Read.{rows_at, judged, trailer_of, read_of, rows_of}
use Rattle.sheet_writer.specs.Write.{trailer_bytes, sheet_of, write_of, room_of}
use Rattle.std.specs.Prelude.{Ok, Err}
use Rattle.refusals.specs.declared.Refusal.{Refusal}
use Rattle.versions.proofs.VersionLaws.{allowed_small, version_known, version_small, version_one}
use Rattle.words.proofs.WordLaws.{Bytes, u32_behind, u32_of_bytes, u32_bytes_at}
use Rattle.sheet.proofs.ReadLaws.{trailer_rows, trailer_fits, read_rows, read_inv}
use Rattle.sheet_writer.proofs.WriteLaws.{Written, written, writes, room_sheet, sheet_in_front}

-- ---- a written sheet reads back

-- the trailer of a list whose length is known
trailer_at : (s : List ℕ) (t : ℕ) → length s ≡ t + 16 → trailer_of s ≡ judged t (u32_at s t) (u32_at s (t + 4)) (u32_at s (t + 8)) (u32_at s (t + 12))
unfolding trailer_of
trailer_at s t e =
    ap (λ (b : Bool). cond b (Err Refusal.ShortSheet) (let k = length s - 16 in judged k (u32_at s k) (u32_at s (k + 4)) (u32_at s (k + 8)) (u32_at s (k + 12)))) (le-ltb (length s) 16 (omega arith))
    ∙ ap (λ (k : ℕ). judged k (u32_at s k) (u32_at s (k + 4)) (u32_at s (k + 8)) (u32_at s (k + 12))) (omega arith)

-- the words that are written are taken
judged_words : (t count start version : ℕ) → known version ≡ true → allowed version count ≡ true → start + 24 * count ≡ t → start ≤ 4096
    → judged t count (24 * count) version 0 ≡ rows_at count start
unfolding judged
judged_words t count start version k a e h =
    let f : t - 24 * count ≡ start = omega arith in
    let w : 24 * count ≤ t = omega arith in
    simp (k, a, eq-eqb (24 * count) (24 * count) refl, le-leb _ _ w, f, le-leb _ _ h)

-- so a trailer behind a note and rows is read as it was written
trailer_words : (p : List ℕ) (count start version : ℕ) → version < 4294967296 → known version ≡ true → allowed version count ≡ true
    → start + 24 * count ≡ length p → start ≤ 4096 → trailer_of (p ++ trailer_bytes count version) ≡ rows_at count start
trailer_words p count start version v k a e h =
    let few : count ≤ 2500 = allowed_small version count a in
    let w = trailer_bytes count version in
    let s = p ++ w in
    let t = length p in
    let e₀ : u32_at s t ≡ count = ap (u32_at s) (sym (add-zero t)) ∙ u32_behind p w 0 ∙ u32_of_bytes count (omega arith) in
    let e₁ : u32_at s (t + 4) ≡ 24 * count = u32_behind p w 4 ∙ u32_of_bytes (24 * count) (omega arith) in
    let e₂ : u32_at s (t + 8) ≡ version = u32_behind p w 8 ∙ u32_of_bytes version v in
    let e₃ : u32_at s (t + 12) ≡ 0 = u32_behind p w 12 in
    trailer_at s t (length-append p w)
    ∙ same t (u32_at s t) (u32_at s (t + 4)) (u32_at s (t + 8)) (u32_at s (t + 12)) count (24 * count) version 0 e₀ e₁ e₂ e₃
    ∙ judged_words t count start version k a e h
  where
    same : (t a b c d a' b' c' d' : ℕ) → a ≡ a' → b ≡ b' → c ≡ c' → d ≡ d' → judged t a b c d ≡ judged t a' b' c' d'
    same t a b c d a' b' c' d' p q r u = cc

note_of : (note rows : List ℕ) → take (length note) (sheet_of note rows) ≡ note
unfolding sheet_of
note_of note rows = ap (take (length note)) (append_assoc note rows _) ∙ take-append_seam note _

rows_of_lem : (note rows : List ℕ) (count : ℕ) → length rows ≡ 24 * count → rows_of (sheet_of note rows) count (length note) ≡ rows
unfolding sheet_of
rows_of_lem note rows count e =
    ap (λ (l : List ℕ). take (24 * count) (drop (length note) l)) (append_assoc note rows _)
    ∙ ap (take (24 * count)) (drop-append_seam note _)
    ∙ take_at rows _ (24 * count) e

-- s reads as a note and rows
pub record ReadsAs (s note rows : List ℕ) : Type 0 where
  pub reads : read_of s ≡ rows_at (length rows / 24) (length note)
  pub note_back : take (length note) s ≡ note
  pub rows_back : rows_of s (length rows / 24) (length note) ≡ rows

sheet_reads : (note rows : List ℕ) (room m : ℕ) → Written note rows room m → ReadsAs (sheet_of note rows) note rows
unfolding sheet_of
sheet_reads note rows room m w =
    let n = length rows / 24 in
    let same = rows_of_lem note rows n (omega (arith, w.whole_rows)) in
    let taken = trailer_words (note ++ rows) n (length note) (version_for n) (version_small n) (version_known n) w.few (omega (arith, length-append note rows)) w.short_note in
    record { reads = read_rows (sheet_of note rows) n (length note) true taken (ap (kinds_known n) same ∙ w.kinds); note_back = note_of note rows; rows_back = same }

-- Where m bytes are written into a room, these read back as the note and the rows.
pub reads_back : (note rows out : List ℕ) (m : ℕ) → write_of note rows (length out) ≡ Ok m → ReadsAs (take m (room_of note rows out)) note rows
reads_back note rows out m e =
    let w = written note rows (length out) m e in
    subst (λ (l : List ℕ). ReadsAs l note rows) (sym (sheet_in_front note rows out m e)) (sheet_reads note rows (length out) m w)

-- ---- a sheet that reads is written again

-- the last 16 bytes are four u32s
tail_words : (s : List ℕ) (t : ℕ) → length s ≡ t + 16 → Bytes s
    → drop t s ≡ u32_bytes (u32_at s t) ++ u32_bytes (u32_at s (t + 4)) ++ u32_bytes (u32_at s (t + 8)) ++ u32_bytes (u32_at s (t + 12))
tail_words s t e b =
    u32_bytes_at s t (omega arith) b
    ∙ ap (λ (l : List ℕ). u32_bytes (u32_at s t) ++ l) (next 4 8 (omega arith) (omega arith)
    ∙ ap (λ (l : List ℕ). u32_bytes (u32_at s (t + 4)) ++ l) (next 8 12 (omega arith) (omega arith)
    ∙ ap (λ (l : List ℕ). u32_bytes (u32_at s (t + 8)) ++ l) (next 12 16 (omega arith) (omega arith)
    ∙ ap (λ (l : List ℕ). u32_bytes (u32_at s (t + 12)) ++ l) (drop_of_length-le s {i = t + 16} (omega arith)))))
  where
    next : (i j : ℕ) → i + 4 ≡ j → t + j ≤ length s → drop (t + i) s ≡ u32_bytes (u32_at s (t + i)) ++ drop (t + j) s
    next i j p q =
        let r : t + i + 4 ≡ t + j = omega arith in
        u32_bytes_at s (t + i) (omega arith) b ∙ ap (λ (k : ℕ). u32_bytes (u32_at s (t + i)) ++ drop k s) r

-- the trailer that is read is the one that is written
trailer_again : (s : List ℕ) (count start : ℕ) → Bytes s → trailer_of s ≡ rows_at count start → trailer_bytes count (version_for count) ≡ drop (length s - 16) s
trailer_again s count start b e =
    let t = length s - 16 in
    let w = trailer_rows s count start e in
    let a : allowed (u32_at s (t + 8)) count ≡ true = ap (allowed (u32_at s (t + 8))) (sym w.1.0) ∙ w.1.1.few in
    let v : version_for count ≡ u32_at s (t + 8) = version_one (u32_at s (t + 8)) count w.1.1.known_version a in
    let d : 24 * count ≡ u32_at s (t + 4) = sym (w.1.1.distance ∙ ap (λ (k : ℕ). 24 * k) w.1.0) in
    ap (λ (x : ℕ). u32_bytes x ++ u32_bytes (24 * count) ++ u32_bytes (version_for count) ++ u32_bytes 0) (sym w.1.0)
    ∙ ap (λ (x : ℕ). u32_bytes (u32_at s t) ++ u32_bytes x ++ u32_bytes (version_for count) ++ u32_bytes 0) d
    ∙ ap (λ (x : ℕ). u32_bytes (u32_at s t) ++ u32_bytes (u32_at s (t + 4)) ++ u32_bytes x ++ u32_bytes 0) v
    ∙ ap (λ (x : ℕ). u32_bytes (u32_at s t) ++ u32_bytes (u32_at s (t + 4)) ++ u32_bytes (u32_at s (t + 8)) ++ u32_bytes x) (sym w.1.1.zero_last)
    ∙ sym (tail_words s t (omega arith) b)

-- note, rows and trailer are the whole
parts : (s last : List ℕ) (count start t : ℕ) → start + 24 * count ≡ t → last ≡ drop t s → take start s ++ rows_of s count start ++ last ≡ s
parts s last count start t e w =
    ap (λ (l : List ℕ). take start s ++ rows_of s count start ++ l) (w ∙ ap (λ (k : ℕ). drop k s) (sym e) ∙ sym (drop-drop (24 * count) start s))
    ∙ append_assoc (take start s) (rows_of s count start) (drop (24 * count) (drop start s))
    ∙ ap (λ (l : List ℕ). take start s ++ l) (take-append-drop (24 * count) (drop start s))
    ∙ take-append-drop start s

-- A sheet that reads, written again from its note and rows into a room that is long enough, stands there byte for byte.
pub writes_again : (s out : List ℕ) (count start : ℕ) → Bytes s → read_of s ≡ rows_at count start → length s ≤ length out
    → (let note = take start s in let rows = rows_of s count start in (write_of note rows (length out) ≡ Ok (length s)) × (room_of note rows out ≡ s ++ drop (length s) out))
unfolding sheet_of
writes_again s out count start b e h =
    let i = read_inv s count start e in
    let f = trailer_fits s count start i.0 in
    let w = (trailer_rows s count start i.0).1 in
    let t = length s - 16 in
    let note = take start s in
    let rows = rows_of s count start in
    let ln : length note ≡ start = length-take-le start s (omega arith) in
    let lr : length rows ≡ 24 * count = length-take-le (24 * count) (drop start s) (simp length-drop (omega arith)) in
    let n : length rows / 24 ≡ count = omega arith in
    let a : allowed (u32_at s (t + 8)) count ≡ true = ap (allowed (u32_at s (t + 8))) (sym w.0) ∙ w.1.few in
    let v : version_for count ≡ u32_at s (t + 8) = version_one (u32_at s (t + 8)) count w.1.known_version a in
    let r : write_of note rows (length out) ≡ Ok (length s) =
    writes note rows (length out) (length s)
    (record {
      few = ap (λ (k : ℕ). allowed (version_for k) k) n ∙ ap (λ (k : ℕ). allowed k count) v ∙ a;
      short_note = omega (arith, w.1.short_note);
      whole_rows = omega arith;
      kinds = ap (λ (k : ℕ). kinds_known k rows) n ∙ i.1;
      fits = omega arith;
      size = omega arith;
    }) in
    let same : sheet_of note rows ≡ s =
    ap (λ (k : ℕ). note ++ rows ++ trailer_bytes k (version_for k)) n ∙ parts s _ count start t (omega arith) (trailer_again s count start b i.0) in
    (r, room_sheet note rows out (length s) r ∙ ap (λ (l : List ℕ). l ++ drop (length s) out) same)
