-- What `written` prints: the sheet of a note and rows, or why there is none. Definitions only.
use Rattle.std.specs.Prelude.{ℕ, min, List, length, take, drop, Result, Ok, Err}
use Rattle.words.specs.Words.{word_of}
use Rattle.refusals.specs.Refusals.{number_of}
use Rattle.refusals.specs.declared.Refusal.{Refusal}
use Rattle.sheet_writer.specs.Write.{sheet_of, write_of}
use Rattle.row_lines.specs.Lines.{refused_line}
use Rattle.listing.specs.Listings.{longest}

-- the note: behind the two words, as many bytes as the first asks for, and at most what is there
abbrev pub note_end : List ℕ → ℕ
note_end s = min (word_of s 0) (length (drop 16 s))

abbrev pub note_in : List ℕ → List ℕ
note_in s = take (note_end s) (drop 16 s)

-- the rows: the rest
abbrev pub rows_in : List ℕ → List ℕ
rows_in s = drop (note_end s) (drop 16 s)

-- the room: as many bytes as the second word asks for, and at most as the longest sheet has
abbrev pub room_in : List ℕ → ℕ
room_in s = min (word_of s 1) longest

-- the sheet's bytes, or `refused N`
unfoldable pub answer_text : List ℕ → List ℕ → Result ℕ Refusal → List ℕ
answer_text note rows (Ok n) = sheet_of note rows
answer_text note rows (Err refusal) = refused_line (number_of refusal)

abbrev pub written_text : List ℕ → List ℕ
written_text s = answer_text (note_in s) (rows_in s) (write_of (note_in s) (rows_in s) (room_in s))
