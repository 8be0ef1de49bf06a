-- The desk by its rules: for each call the answer and the desk that it leaves. Definitions only.
-- Of the settling layer this knows only what it publishes: a query judged, one halving, the state at the end, and how a row names a phase.
use Rattle.std.specs.Prelude.{ℕ, ◌+◌, ◌%◌, Bool, true, Result, Ok, Err, cond, ◌&&◌, ltb, set, replicate, Float}
use Rattle.refusals.specs.declared.Refusal.{Refusal}
use Rattle.ledger.specs.declared.Row.{Row}
use Rattle.ledger.specs.declared.Desk.{Desk}
use Rattle.ledger.specs.Rows.{most, blank, row, counted, held, of_caller, vacant, unfinished, tally, onward, lowest, put, between, nameable, sound}
use Rattle.brackets.specs.declared.Bracket.{Bracket}
use Rattle.settle.specs.declared.Judged.{Judged}
use Rattle.settle.specs.declared.Settled.{Settled}
use Rattle.settle.specs.Phases.{region_of, phase_of}
use Rattle.settle.specs.Settle.{judged_of, halved_of, settled_of}
use Rattle.equations.specs.declared.Phase.{Phase}
use Rattle.runs.specs.declared.Answer.{Answer}
use Rattle.runs.specs.declared.Outcome.{Outcome}

-- ---- a new desk

-- every row empty and every number in it 0
unfoldable pub new_desk : Desk
new_desk = record { rows = replicate 32 blank; counts = replicate 8 0; pointer = 0 }

-- ---- answers

abbrev pub answers : Answer → Desk → Outcome
answers a d = record { answer = Ok a; desk = d }

abbrev pub refuse : Refusal → Desk → Outcome
refuse n d = record { answer = Err n; desk = d }

-- ---- queries and their brackets

-- what was asked, with the phase fixed at the post
pub record Query : Type 0 where
  pub kind : ℕ
  pub phase : Phase
  pub p : Float
  pub y : Float

abbrev pub query_of : Row → Query
query_of r = record { kind = r.kind; phase = phase_of r.region; p = r.p; y = r.y }

abbrev pub bracket_of : Row → Bracket
bracket_of r = record { lo = r.lo; hi = r.hi }

-- one halving of a query's bracket, and the state at the end
abbrev pub halve : Query → Bracket → Bracket
halve q b = halved_of q.kind q.phase q.p q.y b.lo b.hi

abbrev pub settle : Query → Bracket → Settled
settle q b = settled_of q.kind q.phase q.p q.y b.lo b.hi

-- ---- post

-- the row of a job just posted, for so many halvings
abbrev pub fresh : ℕ → ℕ → Query → ℕ → Bracket → Row
fresh c t q number b =
    record {
      filled = true;
      caller = c;
      ticket = t;
      kind = q.kind;
      region = region_of q.phase;
      p = q.p;
      y = q.y;
      number = number;
      halvings = 0;
      lo = b.lo;
      hi = b.hi;
    }

-- it takes the lowest free row, and one ticket more is given
abbrev pub seated : Desk → Row → Desk
seated d r = put d (lowest vacant d) r (set d.counts r.caller (r.ticket + 1)) d.pointer

unfoldable pub admitted : Desk → Row → Outcome
admitted d r =
    cond (ltb r.ticket most)
    (cond (ltb (tally (of_caller r.caller) d) 4) (answers (Answer.Ticket r.ticket) (seated d r)) (refuse Refusal.FourOpen d))
    (refuse Refusal.TicketsSpent d)

-- the ticket is the caller's own count
unfoldable pub judged_post : Desk → ℕ → ℕ → Float → Float → ℕ → Result Judged Refusal → Outcome
judged_post d c kind p y number (Err n) = refuse n d
judged_post d c kind p y number (Ok j) =
    admitted d (fresh c (counted d c) (record { kind = kind; phase = j.phase; p = p; y = y }) number (record { lo = j.lo; hi = j.hi }))

-- a caller, a kind and a number of halvings that a post may name; no value is looked at before they are found so
unfoldable pub known : ℕ → ℕ → ℕ → Bool
known c kind number = ltb c 8 && (between 2 3 kind && nameable number)

unfoldable pub post_of : Desk → ℕ → ℕ → Float → Float → ℕ → Outcome
post_of d c kind p y number =
    cond (sound d) (cond (known c kind number) (judged_post d c kind p y number (judged_of kind p y)) (refuse Refusal.UnknownNumber d)) (refuse Refusal.UnsoundDesk d)

-- ---- turn

-- the row after one halving of its own bracket
unfoldable pub halved_row : Row → Row
halved_row r =
    record {
      filled = r.filled;
      caller = r.caller;
      ticket = r.ticket;
      kind = r.kind;
      region = r.region;
      p = r.p;
      y = r.y;
      number = r.number;
      halvings = r.halvings + 1;
      lo = (halve (query_of r) (bracket_of r)).lo;
      hi = (halve (query_of r) (bracket_of r)).hi;
    }

-- how far on from the pointer the first unfinished row lies
abbrev pub next : Desk → ℕ
next d = onward unfinished d d.pointer

-- the row just past row i
abbrev pub past : ℕ → ℕ
past i = (i + 1) % 32

-- row i gets a halving, and the pointer moves just past it
abbrev pub turned_at : Desk → ℕ → Desk
turned_at d i = put d i (halved_row (row d i)) d.counts (past i)

unfoldable pub turn_of : Desk → Outcome
turn_of d =
    cond (sound d)
    (cond (ltb (next d) 32) (answers Answer.Halved (turned_at d ((d.pointer + next d) % 32))) (answers Answer.Idle d))
    (refuse Refusal.UnsoundDesk d)

-- ---- peek, collect, withdraw

-- the row of a ticket, or the refusal of a call that names it
unfoldable pub open_of : Desk → ℕ → ℕ → Result ℕ Refusal
open_of d c t =
    cond (sound d)
    (cond (ltb c 8) (cond (ltb (lowest (held c t) d) 32) (Ok (lowest (held c t) d)) (Err Refusal.NotOpen)) (Err Refusal.UnknownNumber))
    (Err Refusal.UnsoundDesk)

-- row i is as in a new desk
abbrev pub emptied : Desk → ℕ → Desk
emptied d i = put d i blank d.counts d.pointer

unfoldable pub peek_at : Desk → Result ℕ Refusal → Outcome
peek_at d (Err n) = refuse n d
peek_at d (Ok i) = answers (Answer.Shown (row d i).halvings (row d i).lo (row d i).hi) d

unfoldable pub collect_at : Desk → Result ℕ Refusal → Outcome
collect_at d (Err n) = refuse n d
collect_at d (Ok i) =
    cond (ltb (row d i).halvings (row d i).number)
    (refuse Refusal.NotReady d)
    (answers (Answer.State (settle (query_of (row d i)) (bracket_of (row d i))) (row d i).number (row d i).lo (row d i).hi) (emptied d i))

unfoldable pub withdraw_at : Desk → Result ℕ Refusal → Outcome
withdraw_at d (Err n) = refuse n d
withdraw_at d (Ok i) = answers Answer.Freed (emptied d i)

unfoldable pub peek_of : Desk → ℕ → ℕ → Outcome
peek_of d c t = peek_at d (open_of d c t)

unfoldable pub collect_of : Desk → ℕ → ℕ → Outcome
collect_of d c t = collect_at d (open_of d c t)

unfoldable pub withdraw_of : Desk → ℕ → ℕ → Outcome
withdraw_of d c t = withdraw_at d (open_of d c t)
