-- Writing a point sheet from a note and rows' bytes: the refusals in the order of the scope, or the sheet. Definitions only.
use Rattle.std.specs.Prelude.{ℕ, ◌+◌, ◌*◌, ◌/◌, ◌%◌, ◌&&◌, cond, List, ◌++◌, length, drop, leb, eqb, Result, Ok, Err}
use Rattle.refusals.specs.declared.Refusal.{Refusal}
use Rattle.refusals.specs.Refusals.{number_in}
use Rattle.words.specs.Words.{u32_bytes}
use Rattle.versions.specs.Versions.{allowed, version_for}
use Rattle.sheet.specs.Rows.{kinds_known}

-- Of a sheet that is written its length, 0 where it is refused.
abbrev pub length_of : {E : Type 0} → Result ℕ E → ℕ
length_of (Ok n) = n
length_of (Err refusal) = 0

-- the trailer of so many rows, in a version
abbrev pub trailer_bytes : ℕ → ℕ → List ℕ
trailer_bytes count version = u32_bytes count ++ u32_bytes (24 * count) ++ u32_bytes version ++ u32_bytes 0

-- the sheet of a note and rows' bytes
unfoldable pub sheet_of : List ℕ → List ℕ → List ℕ
sheet_of note rows =
    let count = length rows / 24 in
    note ++ rows ++ trailer_bytes count (version_for count)

-- what is answered for a note, rows' bytes and a room of so many bytes
unfoldable pub write_of : List ℕ → List ℕ → ℕ → Result ℕ Refusal
write_of note rows room =
    let count = length rows / 24 in
    let size = length note + length rows + 16 in
    cond (allowed (version_for count) count)
    (cond (leb (length note) 4096 && eqb (length rows % 24) 0)
    (cond (kinds_known count rows)
    (cond (leb size room) (Ok size) (Err Refusal.ShortRoom))
    (Err Refusal.RowKind))
    (Err Refusal.Layout))
    (Err Refusal.RowCount)

-- the room afterwards: the sheet at its front, and behind it what was there; all as it was where the sheet is refused
unfoldable pub room_of : List ℕ → List ℕ → List ℕ → List ℕ
room_of note rows out =
    let sheet = sheet_of note rows in
    cond (eqb (number_in (write_of note rows (length out))) 0) (sheet ++ drop (length sheet) out) out
