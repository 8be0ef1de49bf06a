-- Turns of the desk one after the other: what is counted of each, and the desk that the last of them leaves. Definitions only.
use Rattle.std.specs.Prelude.{Result, Ok, Err, Some, None, ℕ, zero, suc, ◌+◌}
use Rattle.refusals.specs.declared.Refusal.{Refusal}
use Rattle.runs.specs.Model.{turn_of}
use Rattle.ledger.specs.declared.Desk.{Desk}
use Rattle.runs.specs.declared.Answer.{Answer}
use Rattle.turns.specs.declared.Turned.{Turned}

-- one turn more, which gave this answer and left this desk; of the answers a turn gives only three
unfoldable pub after_turn : Turned → Result Answer Refusal → Desk → Turned
after_turn t (Err n) d = record { refusal = Some n; halved = t.halved; idle = t.idle; desk = d }
after_turn t (Ok Answer.Halved) d = record { refusal = t.refusal; halved = t.halved + 1; idle = t.idle; desk = d }
after_turn t (Ok Answer.Idle) d = record { refusal = t.refusal; halved = t.halved; idle = t.idle + 1; desk = d }
after_turn t (Ok (Answer.Ticket n)) d = record { refusal = t.refusal; halved = t.halved; idle = t.idle; desk = d }
after_turn t (Ok (Answer.Shown n lo hi)) d = record { refusal = t.refusal; halved = t.halved; idle = t.idle; desk = d }
after_turn t (Ok (Answer.State s n lo hi)) d = record { refusal = t.refusal; halved = t.halved; idle = t.idle; desk = d }
after_turn t (Ok Answer.Freed) d = record { refusal = t.refusal; halved = t.halved; idle = t.idle; desk = d }

abbrev pub turned_once : Turned → Turned
turned_once t = after_turn t (turn_of t.desk).answer (turn_of t.desk).desk

-- n turns more
unfoldable pub turns_from : ℕ → Turned → Turned
turns_from zero t = t
turns_from (suc n) t = turns_from n (turned_once t)

abbrev pub turns_of : ℕ → Desk → Turned
turns_of n d = turns_from n (record { refusal = None; halved = 0; idle = 0; desk = d })
