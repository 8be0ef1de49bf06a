-- A run of desk calls in bytes: records of six little-endian u64s, op, caller, a, b, c and d, one behind the other. `rest` is what is left of the run, so
-- that a record's words are numbers 0 to 5 of it. Definitions only.
use Rattle.std.specs.Prelude.{ℕ, zero, suc, ◌+◌, ◌*◌, Bool, cond, ◌&&◌, List, [], ◌∷◌, ◌++◌, leb, eqb, length, Option, Some, None}
use Rattle.arith.specs.Bits.{float_of}
use Rattle.words.specs.Words.{word_of}
use Rattle.ledger.specs.Search.{upto}
use Rattle.ledger.specs.declared.Row.{Row}
use Rattle.ledger.specs.declared.Desk.{Desk}
use Rattle.records.specs.declared.Call.TheVariants.{Post, Peek, Collect, Withdraw}
use Rattle.records.specs.declared.Deed.{Deed}
use Rattle.records.specs.declared.Deed.TheVariants.{Asked, Turns, Given, Shown}

-- the bytes of a record, and of one with a desk behind it: 361 words more
abbrev pub record_bytes : ℕ
record_bytes = 48

abbrev pub desk_bytes : ℕ
desk_bytes = 2936

-- as many turns as one record may ask for
abbrev pub most_turns : ℕ
most_turns = 100000

-- ---- what a record asks for

-- 3 peek, 4 collect, 5 withdraw: a is the ticket
unfoldable pub called : ℕ → ℕ → ℕ → Option Deed
called op caller a =
    cond (eqb op 3) (Some (Asked (Peek caller a))) (cond (eqb op 4) (Some (Asked (Collect caller a))) (cond (eqb op 5) (Some (Asked (Withdraw caller a))) None))

-- 1 post: a is the kind, b and c the bits of p and y, d the number of halvings; 2 turn, a times; 7 show the desk
unfoldable pub plain_of : ℕ → ℕ → ℕ → ℕ → ℕ → ℕ → Option Deed
plain_of op caller a b c d =
    cond (eqb op 1)
    (Some (Asked (Post caller a (float_of b) (float_of c) d)))
    (cond (eqb op 2) (cond (leb a most_turns) (Some (Turns a)) None) (cond (eqb op 7) (Some Shown) (called op caller a)))

-- ---- a desk in words: the pointer, 8 counts, and 32 rows of eleven words each

-- f 0 to f (n - 1)
unfoldable pub made : {A : Type 0} → (ℕ → A) → ℕ → List A
made f zero = []
made f (suc n) = made f n ++ f n ∷ []

-- where row i starts; its first word says whether it is filled
abbrev pub row_start : ℕ → ℕ
row_start i = 15 + 11 * i

-- a desk is there, and every row is filled or not: 1 or 0
unfoldable pub rows_known : List ℕ → Bool
rows_known rest = leb desk_bytes (length rest) && upto (λ i. leb (word_of rest (row_start i)) 1) 32

unfoldable pub row_in : List ℕ → ℕ → Row
row_in rest i =
    let k = row_start i in
    record {
      filled = eqb (word_of rest k) 1;
      caller = word_of rest (k + 1);
      ticket = word_of rest (k + 2);
      kind = word_of rest (k + 3);
      region = word_of rest (k + 4);
      p = float_of (word_of rest (k + 5));
      y = float_of (word_of rest (k + 6));
      number = word_of rest (k + 7);
      halvings = word_of rest (k + 8);
      lo = float_of (word_of rest (k + 9));
      hi = float_of (word_of rest (k + 10));
    }

abbrev pub count_in : List ℕ → ℕ → ℕ
count_in rest c = word_of rest (7 + c)

unfoldable pub desk_in : List ℕ → Desk
desk_in rest = record { rows = made (row_in rest) 32; counts = made (count_in rest) 8; pointer = word_of rest 6 }

-- ---- reading a record

-- 6 takes the desk behind the record; a record that is cut short, or of which the rules know nothing, asks for nothing
unfoldable pub deed_of : List ℕ → Option Deed
deed_of rest =
    cond (leb record_bytes (length rest))
    (cond (eqb (word_of rest 0) 6)
    (cond (rows_known rest) (Some Given) None)
    (plain_of (word_of rest 0) (word_of rest 1) (word_of rest 2) (word_of rest 3) (word_of rest 4) (word_of rest 5)))
    None
