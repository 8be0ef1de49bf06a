-- The middle of a bracket, one halving, and a step done any number of times. Definitions only.
use Rattle.std.specs.Prelude.{ℕ, zero, suc, Bool, cond, Float}
use Rattle.arith.specs.F64.{f64, ◌⊕◌, ◌⊘◌}
use Rattle.brackets.specs.declared.Bracket.{Bracket}

abbrev pub middle_of : Float → Float → Float
middle_of lo hi = (lo ⊕ hi) ⊘ f64 2

-- mid = (lo + hi) / 2; if the value there is below the one asked, lo = mid, else hi = mid
unfoldable pub half_of : Float → Float → Bool → Bracket
half_of lo hi below =
    let mid = middle_of lo hi in
    cond below (record { lo = mid; hi = hi }) (record { lo = lo; hi = mid })

-- f done n times over
unfoldable pub times : {A : Type 0} → (A → A) → ℕ → A → A
times f zero x = x
times f (suc n) x = f (times f n x)
