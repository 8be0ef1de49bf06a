-- What a place, or a standing, says in the paper's words: its region for each case, and the T of a wet one or beside the line. The number of a refusal is that of the
-- table. Definitions only.
use Rattle.std.specs.Prelude.{ℕ, List, [], ◌∷◌, Float, Result, Ok, Err}
use Rattle.equations.specs.Equations as Equations
use Rattle.equations.specs.Equations.{equation_of}
use Rattle.equations.specs.declared.Equation.{Equation}
use Rattle.refusals.specs.declared.Refusal.{Refusal}
use Rattle.places.specs.declared.Side.{Side}
use Rattle.places.specs.declared.Standing.{Standing}
use Rattle.places.specs.Standing.{place_of}

-- ---- of (p,T): the region, 0 if refused

abbrev pub region_of : Result Equation Refusal → ℕ
region_of (Ok equation) = Equations.region_of equation
region_of (Err refusal) = 0

-- ---- of (p,h) or (p,s): the same; a wet place is of region 4

abbrev pub side_region_of : Result Side Refusal → ℕ
side_region_of (Ok (Side.Phase phase)) = Equations.region_of (equation_of phase)
side_region_of (Ok (Side.Wet t)) = 4
side_region_of (Err refusal) = 0

-- Ts(p) of a wet place; no other has a value
abbrev pub side_values_of : Result Side Refusal → List Float
side_values_of (Ok (Side.Phase phase)) = []
side_values_of (Ok (Side.Wet t)) = t ∷ []
side_values_of (Err refusal) = []

-- ---- of a standing: the region is that of its place, and its value is Ts(p), where the line decided

abbrev pub standing_region_of : Result Standing Refusal → ℕ
standing_region_of standing = side_region_of (place_of standing)

abbrev pub standing_values_of : Result Standing Refusal → List Float
standing_values_of (Ok (Standing.Beside phase ts)) = ts ∷ []
standing_values_of (Ok (Standing.Wet t)) = t ∷ []
standing_values_of (Ok (Standing.Beyond phase)) = []
standing_values_of (Err refusal) = []
