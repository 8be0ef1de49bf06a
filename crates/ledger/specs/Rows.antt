-- The desk as data: its rows, the tests by which one is looked for, and what makes a desk sound. Definitions only.
-- Rows are numbered 0 to 31, callers 0 to 7.
use Rattle.std.specs.Prelude.{ℕ, ◌+◌, ◌%◌, Bool, true, false, Option, Some, None, cond, not, ◌&&◌, List, leb, ltb, eqb, get_or, set, Float}
use Rattle.std.specs.Float.{binary64}
use Rattle.std.specs.Float.Ieee.{of_bits}
use Rattle.ledger.specs.declared.Row.{Row}
use Rattle.ledger.specs.declared.Desk.{Desk}
use Rattle.ledger.specs.declared.Want.{Want}
use Rattle.ledger.specs.declared.Want.TheVariants.{Vacant, Unfinished, Held}
use Rattle.ledger.specs.Search.{least, count, upto}

-- ---- numbers that the rules fix

-- how many tickets a caller may be given
abbrev pub most : ℕ
most = 1000000

-- from a to b, ends included
abbrev pub between : ℕ → ℕ → ℕ → Bool
between a b n = leb a n && leb n b

-- a number of halvings that a post may name
unfoldable pub nameable : ℕ → Bool
nameable n = between 10 50 n

-- ---- rows

abbrev pub nought : Float
nought = of_bits binary64 0

-- a row as in a new desk
abbrev pub blank : Row
blank =
    record {
      filled = false;
      caller = 0;
      ticket = 0;
      kind = 0;
      region = 0;
      p = nought;
      y = nought;
      number = 0;
      halvings = 0;
      lo = nought;
      hi = nought;
    }

unfoldable pub row : Desk → ℕ → Row
row d i = get_or d.rows i blank

-- how many tickets caller c was given
abbrev pub counted : Desk → ℕ → ℕ
counted d c = get_or d.counts c 0

-- a row of caller c's ticket t; a row of caller c; an empty row; a row with halvings to go
unfoldable pub held : ℕ → ℕ → Row → Bool
held c t r = r.filled && (eqb r.caller c && eqb r.ticket t)

unfoldable pub of_caller : ℕ → Row → Bool
of_caller c r = r.filled && eqb r.caller c

unfoldable pub vacant : Row → Bool
vacant r = not r.filled

unfoldable pub unfinished : Row → Bool
unfinished r = r.filled && ltb r.halvings r.number

abbrev pub wants : Want → Row → Bool
wants Vacant r = vacant r
wants Unfinished r = unfinished r
wants (Held c t) r = held c t r

-- how many rows pass a test
unfoldable pub tally : (Row → Bool) → Desk → ℕ
tally f d = count (λ i. f (row d i)) 32

-- the first row at or after a place, round the end, that passes a test: how many places on it lies, and 32 where there is none
unfoldable pub onward : (Row → Bool) → Desk → ℕ → ℕ
onward f d from = least (λ k. f (row d ((from + k) % 32))) 32

-- a row that lies so many places on; 32 is none
abbrev pub found : ℕ → Option ℕ
found k = cond (ltb k 32) (Some k) None

-- the lowest row that passes a test, and 32 where there is none
abbrev pub lowest : (Row → Bool) → Desk → ℕ
lowest f d = onward f d 0

-- the only way in which a desk changes: one row is another, and the counts and the pointer are these
abbrev pub put : Desk → ℕ → Row → List ℕ → ℕ → Desk
put d i r counts pointer = record { rows = set d.rows i r; counts = counts; pointer = pointer }

-- ---- a sound desk

-- a caller 0 to 7, a ticket below that caller's count, a region 1 or 2, a kind 2 or 3, a number of halvings 10 to 50, and at most that many done
unfoldable pub row_right : List ℕ → Row → Bool
row_right counts r =
    ltb r.caller 8
    && (ltb r.ticket (get_or counts r.caller 0)
    && (between 1 2 r.region && (between 2 3 r.kind && (nameable r.number && leb r.halvings r.number))))

-- ticket counts at most 1,000,000
unfoldable pub counts_right : List ℕ → Bool
counts_right counts = upto (λ c. leb (get_or counts c 0) most) 8

-- each filled row is right by itself; no two share caller and ticket; no caller has more than four
abbrev pub each_right : Desk → Bool
each_right d = upto (λ i. cond (row d i).filled (row_right d.counts (row d i)) true) 32

abbrev pub none_shared : Desk → Bool
none_shared d = upto (λ i. cond (row d i).filled (leb (tally (held (row d i).caller (row d i).ticket) d) 1) true) 32

abbrev pub none_over_four : Desk → Bool
none_over_four d = upto (λ c. leb (tally (of_caller c) d) 4) 8

unfoldable pub rows_right : Desk → Bool
rows_right d = each_right d && (none_shared d && none_over_four d)

unfoldable pub sound : Desk → Bool
sound d = leb d.pointer 31 && (counts_right d.counts && rows_right d)
