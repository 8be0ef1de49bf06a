-- What an answer of the desk says in the paper's words: the values that it hands out, and with its number what a call tells. Definitions only.
use Rattle.std.specs.Prelude.{◌≡◌, Result, Ok, Err, List, [], ◌∷◌, ℕ, Float}
use Rattle.refusals.specs.declared.Refusal.{Refusal}
use Rattle.refusals.specs.Refusals.{number_in}
use Rattle.ledger.specs.declared.Desk.{Desk}
use Rattle.settle.specs.declared.Settled.{Settled}
use Rattle.runs.specs.declared.Answer.{Answer}
use Rattle.runs.specs.declared.Outcome.{Outcome}

-- a ticket or a number of halvings, an end of a bracket in K, a state with its mark
pub data Value : Type 0 where
  whole : ℕ → Value
  kelvin : Float → Value
  state : Settled → Value

-- a post hands out its ticket, a peek the halvings done, lo and hi, a collect the state, the number posted for, lo and hi; that a turn halved or idled is no value,
-- and a withdraw and a refusal hand out nothing
abbrev pub values_of : Result Answer Refusal → List Value
values_of (Err refusal) = []
values_of (Ok (Answer.Ticket t)) = whole t ∷ []
values_of (Ok Answer.Halved) = []
values_of (Ok Answer.Idle) = []
values_of (Ok (Answer.Shown n lo hi)) = whole n ∷ kelvin lo ∷ kelvin hi ∷ []
values_of (Ok (Answer.State s n lo hi)) = state s ∷ whole n ∷ kelvin lo ∷ kelvin hi ∷ []
values_of (Ok Answer.Freed) = []

-- a call that answers the number n and hands out the values vs leaves the desk d
pub record Tells (o : Outcome) (n : ℕ) (vs : List Value) (d : Desk) : Type 0 where
  pub number : number_in o.answer ≡ n
  pub values : values_of o.answer ≡ vs
  pub leaves : o.desk ≡ d
