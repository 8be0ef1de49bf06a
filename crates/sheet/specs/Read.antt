-- Reading a sheet: the refusals in the order of the scope, or where the rows are. Definitions only.
use Rattle.std.specs.Prelude.{ℕ, ◌+◌, ◌-◌, ◌*◌, ◌&&◌, cond, List, length, take, drop, ltb, leb, eqb, Result, Ok, Err}
use Rattle.refusals.specs.declared.Refusal.{Refusal}
use Rattle.words.specs.Words.{u32_at}
use Rattle.versions.specs.Versions.{known, allowed}
use Rattle.sheet.specs.Rows.{kinds_known}
use Rattle.sheet.specs.declared.reader.Rows.{Rows}

-- so many rows, from a place on
abbrev pub rows_at : ℕ → ℕ → Result Rows Refusal
rows_at count start = Ok (record { count = count; start = start })

-- Of a sheet that reads how many rows there are, and where the first starts, which is how long the note is; both 0 where it is refused.
abbrev pub count_of : {E : Type 0} → Result Rows E → ℕ
count_of (Ok rows) = rows.count
count_of (Err refusal) = 0

abbrev pub start_of : {E : Type 0} → Result Rows E → ℕ
start_of (Ok rows) = rows.start
start_of (Err refusal) = 0

-- a trailer's four words, with t bytes before it
unfoldable pub judged : ℕ → ℕ → ℕ → ℕ → ℕ → Result Rows Refusal
judged t count back version last =
    cond (known version && eqb last 0)
    (cond (allowed version count)
    (cond (eqb back (24 * count) && leb back t && leb (t - back) 4096) (rows_at count (t - back)) (Err Refusal.Layout))
    (Err Refusal.RowCount))
    (Err Refusal.Version)

-- a sheet's length and trailer
unfoldable pub trailer_of : List ℕ → Result Rows Refusal
trailer_of s =
    let t = length s - 16 in
    cond (ltb (length s) 16) (Err Refusal.ShortSheet) (judged t (u32_at s t) (u32_at s (t + 4)) (u32_at s (t + 8)) (u32_at s (t + 12)))

-- the bytes of so many rows from a place on
abbrev pub rows_of : List ℕ → ℕ → ℕ → List ℕ
rows_of s count start = take (24 * count) (drop start s)

-- and then the kinds of the rows
unfoldable pub with_kinds : List ℕ → Result Rows Refusal → Result Rows Refusal
with_kinds s (Err refusal) = Err refusal
with_kinds s (Ok rows) = cond (kinds_known rows.count (rows_of s rows.count rows.start)) (Ok rows) (Err Refusal.RowKind)

unfoldable pub read_of : List ℕ → Result Rows Refusal
read_of s = with_kinds s (trailer_of s)
