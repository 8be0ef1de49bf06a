-- A table that is lent as three slices: what the walker promises of it holds of the paper's table, once the slices' rows are the paper's rows. Assumes
-- nothing.
use Prim.Native.Nat.{ℕ}
use mathlib.Core.Path.{◌≡◌, ap, ◌∙◌}
use mathlib.Core.List.{List}
use lib.Ieee.{Float}
use Rattle.terms.specs.Sum.{Term, sum_of}
use Rattle.terms.specs.Six.{six_of}
use Rattle.terms.specs.declared.Six.{Six}

pub lent_six : (table : List Term) (a b : Float) {ts : List Term} {r : Six} → r ≡ six_of ts a b → ts ≡ table → r ≡ six_of table a b
lent_six table a b promise rows = promise ∙ ap (λ ts. six_of ts a b) rows

-- the sum alone, or one derivative of it
pub lent_sum : (table : List Term) (da db : ℕ) (a b : Float) {ts : List Term} {r : Float} → r ≡ sum_of ts da db a b → ts ≡ table → r ≡ sum_of table da db a b
lent_sum table da db a b promise rows = promise ∙ ap (λ ts. sum_of ts da db a b) rows
