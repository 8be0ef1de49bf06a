-- What a sheet that reads is made of. Assumes nothing.
use mathlib.Core.Path.{◌≡◌, refl, sym, ap, ◌∙◌}
use mathlib.Core.Bool.{Bool, true, false, ◌&&◌, cond}
use mathlib.Core.List.{List}
use Prim.Native.Nat.{ℕ, ◌+◌, ◌-◌, ◌*◌, ◌/◌, ◌≤◌, ◌<◌}
use native.Mathlib.Omega.{arith}
use lib.ListN.{length}
use lib.Dec.{ltb, leb, eqb}
use borrow.Author.Tests.{ltb-false, leb-true, eqb-true, lt-ltb}
use Rattle.words.specs.Words.{u32_at}
use Rattle.versions.specs.Versions.{known, allowed}
use Rattle.sheet.specs.Rows.{kind_known, kinds_known, row_at, row_of}
use Rattle.sheet.specs.Read.{rows_at, count_of, start_of, judged, trailer_of, read_of, with_kinds, rows_of}
use Rattle.sheet.specs.declared.rows.Point.{Point}
use Rattle.sheet.specs.declared.reader.Rows.{Rows}
use Rattle.refusals.specs.declared.Refusal.{Refusal}
use Rattle.std.specs.Prelude.{Result, Ok, Err}
use Rattle.versions.proofs.VersionLaws.{allowed_small}
use Rattle.words.proofs.WordLaws.{u64_part}
use Rattle.sheet.proofs.RowLaws.{and_left, and_right, kinds_at}

not_rows : (refusal : Refusal) (count start : ℕ) → Err refusal ≡ rows_at count start → ⊥
not_rows refusal count start e = cc

-- how many rows there are, and where they start
same_rows : {m f count start : ℕ} → rows_at m f ≡ rows_at count start → (m ≡ count) × (f ≡ start)
same_rows e = (ap count_of e, ap start_of e)

-- ---- its trailer

-- a trailer's words, with t bytes before it, where they say so many rows from a place on
pub record Words (t count back version last start : ℕ) : Type 0 where
  pub known_version : known version ≡ true
  pub zero_last : last ≡ 0
  pub few : allowed version count ≡ true
  pub distance : back ≡ 24 * count
  pub within : start + back ≡ t
  pub short_note : start ≤ 4096

shape : (a b d : Bool) (m f count start : ℕ) → cond a (cond b (cond d (rows_at m f) (Err Refusal.Layout)) (Err Refusal.RowCount)) (Err Refusal.Version) ≡ rows_at count start
    → (a ≡ true) × (b ≡ true) × (d ≡ true) × (m ≡ count) × (f ≡ start)
shape true true true m f count start e = let p = same_rows e in (refl, refl, refl, p.0, p.1)
shape true true false m f count start e = absurd (not_rows Refusal.Layout count start e)
shape true false d m f count start e = absurd (not_rows Refusal.RowCount count start e)
shape false b d m f count start e = absurd (not_rows Refusal.Version count start e)

judged_rows : (t m back version last count start : ℕ) → judged t m back version last ≡ rows_at count start → (m ≡ count) × Words t m back version last start
unfolding judged
judged_rows t m back version last count start e =
    let right = eqb back (24 * m) && leb back t && leb (t - back) 4096 in
    let p = shape (known version && eqb last 0) (allowed version m) right m (t - back) count start e in
    let w : back ≤ t = leb-true _ _ (and_right (eqb back (24 * m)) _ (and_left _ (leb (t - back) 4096) p.2)) in
    let o : t - back ≤ 4096 = leb-true _ _ (and_right (eqb back (24 * m) && leb back t) _ p.2) in
    let f : t - back ≡ start = p.4 in (
      p.3,
      record {
        known_version = and_left (known version) _ p.0;
        zero_last = eqb-true _ _ (and_right (known version) _ p.0);
        few = p.1;
        distance = eqb-true _ _ (and_left _ (leb back t) (and_left _ (leb (t - back) 4096) p.2));
        within = omega arith;
        short_note = omega arith;
      },
    )

-- a sheet whose trailer stands at place t and is taken
abbrev pub Trailer : List ℕ → ℕ → ℕ → ℕ → Type 0
Trailer s t count start = (u32_at s t ≡ count) × Words t (u32_at s t) (u32_at s (t + 4)) (u32_at s (t + 8)) (u32_at s (t + 12)) start

pub trailer_rows : (s : List ℕ) (count start : ℕ) → trailer_of s ≡ rows_at count start → (16 ≤ length s) × Trailer s (length s - 16) count start
unfolding trailer_of
trailer_rows s count start e = go (ltb (length s) 16) refl (length s - 16) e
  where
    go : (b : Bool) → ltb (length s) 16 ≡ b → (t : ℕ)
        → cond b (Err Refusal.ShortSheet) (judged t (u32_at s t) (u32_at s (t + 4)) (u32_at s (t + 8)) (u32_at s (t + 12))) ≡ rows_at count start
        → (16 ≤ length s) × Trailer s t count start
    go true q t h = absurd (not_rows Refusal.ShortSheet count start h)
    go false q t h = (ltb-false _ _ q, judged_rows t (u32_at s t) (u32_at s (t + 4)) (u32_at s (t + 8)) (u32_at s (t + 12)) count start h)

-- its parts make up the whole
pub trailer_fits : (s : List ℕ) (count start : ℕ) → trailer_of s ≡ rows_at count start → start + 24 * count + 16 ≡ length s
trailer_fits s count start e =
    let w = trailer_rows s count start e in
    omega (arith, w.1.1.distance, w.1.1.within, w.1.0, w.0)

-- ---- its kinds

pub read_refused : (s : List ℕ) (refusal : Refusal) → trailer_of s ≡ Err refusal → read_of s ≡ Err refusal
unfolding read_of with_kinds
read_refused s refusal e = ap (with_kinds s) e

pub read_rows : (s : List ℕ) (count start : ℕ) (b : Bool) → trailer_of s ≡ rows_at count start → kinds_known count (rows_of s count start) ≡ b
    → read_of s ≡ cond b (rows_at count start) (Err Refusal.RowKind)
unfolding read_of with_kinds
read_rows s count start b e k = ap (with_kinds s) e ∙ ap (λ (t : Bool). cond t (rows_at count start) (Err Refusal.RowKind)) k

-- and the other way: a sheet that reads has a trailer that is taken and rows with known kinds
pub read_inv : (s : List ℕ) (count start : ℕ) → read_of s ≡ rows_at count start → (trailer_of s ≡ rows_at count start) × (kinds_known count (rows_of s count start) ≡ true)
unfolding read_of with_kinds
read_inv s count start e = go (trailer_of s) refl e
  where
    row : (m f : ℕ) (b : Bool) → kinds_known m (rows_of s m f) ≡ b → trailer_of s ≡ rows_at m f → cond b (rows_at m f) (Err Refusal.RowKind) ≡ rows_at count start
        → (trailer_of s ≡ rows_at count start) × (kinds_known count (rows_of s count start) ≡ true)
    row m f true k q h =
        let p = same_rows h in
        let a = p.0 in
        let b = p.1 in
        (q ∙ h, ap (λ (j : ℕ). kinds_known j (rows_of s j start)) (sym a) ∙ ap (λ (j : ℕ). kinds_known m (rows_of s m j)) (sym b) ∙ k)
    row m f false k q h = absurd (not_rows Refusal.RowKind count start h)

    go : (r : Result Rows Refusal) → trailer_of s ≡ r → with_kinds s r ≡ rows_at count start → (trailer_of s ≡ rows_at count start) × (kinds_known count (rows_of s count start) ≡ true)
    go (Err refusal) q h = absurd (not_rows refusal count start h)
    go (Ok rows) q h = row rows.count rows.start (kinds_known rows.count (rows_of s rows.count rows.start)) refl q h

-- so its rows are few, and its parts make up the whole
pub read_fits : (s : List ℕ) (count start : ℕ) → read_of s ≡ rows_at count start → (start + 24 * count + 16 ≡ length s) × (count ≤ 2500)
read_fits s count start e =
    let i = read_inv s count start e in
    let w = (trailer_rows s count start i.0).1 in
    (trailer_fits s count start i.0, omega (arith, allowed_small (u32_at s (length s - 16 + 8)) (u32_at s (length s - 16)) w.1.few, w.0))

-- ---- its rows

-- row k of a sheet that reads stands in it whole, and has a known kind
pub row_held : (s : List ℕ) (count start k : ℕ) → read_of s ≡ rows_at count start → k < count
    → (row_of s start k ≡ row_at s (start + 24 * k)) × (kind_known (row_of s start k).kind ≡ true)
unfolding row_of
row_held s count start k e h =
    let f = (read_fits s count start e).0 in
    let r : row_of s start k ≡ row_at s (start + 24 * k) = simp (lt-ltb k ((length s - start) / 24) (omega arith)) in (
      r,
      ap (λ (p : Point). kind_known p.kind) r
          ∙ ap kind_known (sym (u64_part s start (24 * count) (24 * k) (omega arith)))
          ∙ kinds_at count (rows_of s count start) k h (read_inv s count start e).1,
    )
