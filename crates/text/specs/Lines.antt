-- A line: a room that is lent for text, and the place in it where the next text goes. Definitions only.
use Rattle.std.specs.Prelude.{◌≡◌, ℕ, List}
use Rattle.text.specs.Room.{Written}
use Rattle.text.specs.declared.Line.{Line}

-- What every writer promises: l' is the line l with s written at its place. It has the same room, with s in it from that place on, and the place behind s.
pub record Writes (l : Line) (s : List ℕ) (l' : Line) : Type 0 where
  pub same : l'.room.ghost_name ≡ l.room.ghost_name
  pub text : Written l.room.now l.at s l'.room.now l'.at
