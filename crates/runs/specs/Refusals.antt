-- When a call of the desk is refused, and with which number: the tests of each call in the order in which they count. Definitions only.
use Rattle.std.specs.Prelude.{Bool, Result, is_ok, cond, not, List, [], ◌∷◌, ℕ, ltb}
use Rattle.settle.specs.declared.Judged.{Judged}
use Rattle.refusals.specs.declared.Refusal.{Refusal}
use Rattle.refusals.specs.Refusals.{number_in}
use Rattle.settle.specs.Settle.{judged_of}
use Rattle.ledger.specs.declared.Desk.{Desk}
use Rattle.ledger.specs.Rows.{most, row, counted, held, of_caller, tally, lowest, between, sound}
use Rattle.runs.specs.Runs.{Call, post, turn, peek, collect, withdraw}

-- a test, and the number of the refusal where it fails
pub data Test : Type 0 where
  unless : Bool → ℕ → Test

-- the number of the first test that fails, 0 if none does
unfoldable pub first_of : List Test → ℕ
first_of [] = 0
first_of (unless b n ∷ rest) = cond b (first_of rest) n

-- the refusal that judging a query gives
abbrev pub judged : Result Judged Refusal → Test
judged j = unless (is_ok j) (number_in j)

-- 15 the desk is not sound; 9 unknown caller or kind, or a number of halvings outside 10 to 50; 13 all tickets given; 10 four open; 11 the ticket is not open for
-- this caller; 12 not ready
abbrev pub tests_of : Desk → Call → List Test
tests_of d (post c kind p y number) =
    unless (sound d) 15
    ∷ unless (ltb c 8) 9
    ∷ unless (between 2 3 kind) 9
    ∷ unless (between 10 50 number) 9
    ∷ judged (judged_of kind p y)
    ∷ unless (ltb (counted d c) most) 13
    ∷ unless (ltb (tally (of_caller c) d) 4) 10
    ∷ []
tests_of d turn = unless (sound d) 15 ∷ []
tests_of d (peek c t) = unless (sound d) 15 ∷ unless (ltb c 8) 9 ∷ unless (ltb (lowest (held c t) d) 32) 11 ∷ []
tests_of d (collect c t) =
    unless (sound d) 15
    ∷ unless (ltb c 8) 9
    ∷ unless (ltb (lowest (held c t) d) 32) 11
    ∷ unless (not (ltb (row d (lowest (held c t) d)).halvings (row d (lowest (held c t) d)).number)) 12
    ∷ []
tests_of d (withdraw c t) = unless (sound d) 15 ∷ unless (ltb c 8) 9 ∷ unless (ltb (lowest (held c t) d) 32) 11 ∷ []
