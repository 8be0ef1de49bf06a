-- A halving leaves a row its caller's and its ticket's, and halves the bracket that the row holds. Assumes nothing.
use mathlib.Core.Path.{◌≡◌, refl}
use Prim.Native.Nat.{ℕ}
use Rattle.ledger.specs.declared.Row.{Row}
use Rattle.ledger.specs.Rows.{held, of_caller}
use Rattle.runs.specs.Model.{halved_row}
use Rattle.runs.specs.Runs.{HalvedOnce}

pub halved_once : (r : Row) → HalvedOnce r (halved_row r)
unfolding halved_row
halved_once r = record { same_ticket = (refl, refl, refl); same_region = refl; same_query = refl; same_number = refl; one_more = refl; own_bracket = refl }

module _ (c : ℕ) (r : Row) where
  pub of_halved : of_caller c (halved_row r) ≡ of_caller c r
  unfolding of_caller halved_row
  of_halved = refl

  pub held_halved : (t : ℕ) → held c t (halved_row r) ≡ held c t r
  unfolding held halved_row
  held_halved t = refl
