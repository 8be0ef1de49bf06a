-- What a record does: the desk that it leaves, the bytes that it takes, the text that it writes; and what a run of them does. The calls are those of the
-- desk's runs, in the words of its theorems. Definitions only.
use Rattle.std.specs.Prelude.{ℕ, zero, suc, ◌+◌, ◌≤◌, ◌<◌, ◌≡◌, List, length, drop, Option, Some, None}
use Rattle.text.specs.Texts.{joined}
use Rattle.runs.specs.Model.{new_desk}
use Rattle.runs.specs.Runs as Runs
use Rattle.ledger.specs.declared.Desk.{Desk}
use Rattle.runs.specs.declared.Outcome.{Outcome}
use Rattle.records.specs.declared.Call.{Call}
use Rattle.records.specs.declared.Call.TheVariants.{Post, Peek, Collect, Withdraw}
use Rattle.records.specs.declared.Deed.{Deed}
use Rattle.records.specs.declared.Deed.TheVariants.{Asked, Turns, Given, Shown}
use Rattle.records.specs.Records.{record_bytes, desk_bytes, desk_in, deed_of}
use Rattle.call_lines.specs.Lines.{call_line}
use Rattle.refusals.specs.Refusals.{number_of}
use Rattle.desk_lines.specs.Lines.{shown_lines}
use Rattle.turns.specs.declared.Turned.{Turned}
use Rattle.turns.specs.Turns.{turns_of}
use Rattle.transcript.specs.declared.Step.{Step}
use Rattle.transcript.specs.Lines.{number_if, turns_line, given_line, bad_line}

-- ---- a call

-- the same call in the words of runs
abbrev pub call_of : Call → Runs.Call
call_of (Post caller kind p y number) = Runs.post caller kind p y number
call_of (Peek caller ticket) = Runs.peek caller ticket
call_of (Collect caller ticket) = Runs.collect caller ticket
call_of (Withdraw caller ticket) = Runs.withdraw caller ticket

abbrev pub outcome_of : Desk → Call → Outcome
outcome_of d call = Runs.step d (call_of call)

-- ---- a record

unfoldable pub desk_after : List ℕ → Desk → Option Deed → Desk
desk_after rest d (Some (Asked call)) = (outcome_of d call).desk
desk_after rest d (Some (Turns n)) = (turns_of n d).desk
desk_after rest d (Some Given) = desk_in rest
desk_after rest d (Some Shown) = d
desk_after rest d None = d

-- a bad record takes all that is left: it ends the run
unfoldable pub taken_by : List ℕ → Option Deed → ℕ
taken_by rest (Some (Asked call)) = record_bytes
taken_by rest (Some (Turns n)) = record_bytes
taken_by rest (Some Given) = desk_bytes
taken_by rest (Some Shown) = record_bytes
taken_by rest None = length rest

-- What `play` promises beside the text: r has the desk that the record leaves, where it finds d, and how many bytes it takes.
pub record Done (rest : List ℕ) (d : Desk) (r : Step) : Type 0 where
  pub desk : r.desk ≡ desk_after rest d (deed_of rest)
  pub taken : r.taken ≡ taken_by rest (deed_of rest)

abbrev pub turns_text : ℕ → Turned → List ℕ
turns_text number t = turns_line number (number_if t.refusal) t.halved t.idle

unfoldable pub text_of : ℕ → Desk → Option Deed → List ℕ
text_of number d (Some (Asked call)) = call_line number_of number call (outcome_of d call).answer
text_of number d (Some (Turns n)) = turns_text number (turns_of n d)
text_of number d (Some Given) = given_line number
text_of number d (Some Shown) = shown_lines number d
text_of number d None = bad_line number

-- ---- a run

-- where a run stands: the desk, and what is left of the bytes
pub record Standing : Type 0 where
  pub desk : Desk
  pub rest : List ℕ

-- one record on
abbrev pub onward : Standing → Standing
onward s =
    let deed = deed_of s.rest in
    record { desk = desk_after s.rest s.desk deed; rest = drop (taken_by s.rest deed) s.rest }

-- where a run stands before record k, counted from 0: the first finds a new desk
unfoldable pub standing : List ℕ → ℕ → Standing
standing run zero = record { desk = new_desk; rest = run }
standing run (suc k) = onward (standing run k)

abbrev pub deed_at : List ℕ → ℕ → Option Deed
deed_at run k = deed_of (standing run k).rest

-- the text of record k, which has number k + 1
abbrev pub record_text : List ℕ → ℕ → List ℕ
record_text run k = text_of (k + 1) (standing run k).desk (deed_at run k)

-- what is printed of the first n records of a run
unfoldable pub transcript : List ℕ → ℕ → List ℕ
transcript run n = joined (record_text run) n

-- Record k comes next: it finds this desk and starts at this place, both as the run has them.
pub record Next (run : List ℕ) (k at : ℕ) (d : Desk) : Type 0 where
  pub desk : d ≡ (standing run k).desk
  pub rest : drop at run ≡ (standing run k).rest

-- Record k, which started at this place, was played, and r is what it did: what it takes is there, it takes something where something is left, and the next
-- record comes behind it.
pub record Played (run : List ℕ) (k at : ℕ) (r : Step) : Type 0 where
  pub there : at + r.taken ≤ length run
  pub some : at < length run → 0 < r.taken
  pub next : Next run (k + 1) (at + r.taken) r.desk

-- The run has n records: it is over when nothing is left behind a record, which is not so of any before the last.
pub record Ended (run : List ℕ) (n : ℕ) : Type 0 where
  pub one : 0 < n
  pub left : (k : ℕ) → 0 < k → k < n → 0 < length (standing run k).rest
  pub over : length (standing run n).rest ≡ 0
