-- Bytes written into a slice that the caller lends, its room: what the room holds afterwards, and the place behind them. Where the room ends before the
-- bytes do, they are cut there; so pieces one behind the other are, in every room, the same as all of them at once (`then`, proofs/Pieces.antt).
-- Definitions only.
use Rattle.std.specs.Prelude.{◌≡◌, ℕ, ◌+◌, ◌-◌, ◌≤◌, min, List, ◌++◌, length, take, drop}

-- how many bytes of s the room o takes from place at on
unfoldable pub fitting : List ℕ → ℕ → List ℕ → ℕ
fitting o at s = min (length o - at) (length s)

-- the room with s in it from place at on
unfoldable pub placed : List ℕ → ℕ → List ℕ → List ℕ
placed o at s = let n = fitting o at s in take at o ++ take n s ++ drop (at + n) o

-- the place behind s
unfoldable pub after : List ℕ → ℕ → List ℕ → ℕ
after o at s = at + fitting o at s

-- What a call promises that is lent a room o and a place in it, where s is to be written: it leaves the room as o', and r is the place behind s. Of a line the
-- same is said by `Writes` (specs/Lines.antt).
pub record Written (o : List ℕ) (at : ℕ) (s o' : List ℕ) (r : ℕ) : Type 0 where
  pub room : o' ≡ placed o at s
  pub place : r ≡ after o at s

-- What a program promises of the room that it lends, where that is long enough for every text: s stands whole at the front of the room o, with nothing cut,
-- and r is the place behind it, so that `&o[..r]` is s.
pub record Whole (o s : List ℕ) (r : ℕ) : Type 0 where
  pub inside : r ≤ length o
  pub text : take r o ≡ s
