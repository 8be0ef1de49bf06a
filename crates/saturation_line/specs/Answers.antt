-- What a saturation pressure says in the request's words: the refusal, the place and the value of each case. Definitions only.
use Rattle.std.specs.Prelude.{ℕ, Float, List, [], ◌∷◌, Option, Some, None}
use Rattle.saturation_line.specs.declared.SaturationPressure.{SaturationPressure}
use Rattle.saturation_line.specs.declared.SaturationPressure.TheVariants.{UpTo623, Above623}

-- the refusal of a finite T, 0 if there is none: without an answer it is out of range, 3
abbrev pub number_of : Option SaturationPressure → ℕ
number_of (Some (UpTo623 p)) = 0
number_of (Some (Above623 p)) = 0
number_of None = 3

-- the place, which is no region: 1 up to 623.15 K, 2 above that, 0 without an answer
abbrev pub place_of : Option SaturationPressure → ℕ
place_of (Some (UpTo623 p)) = 1
place_of (Some (Above623 p)) = 2
place_of None = 0

-- p, where there is an answer
abbrev pub values_of : Option SaturationPressure → List Float
values_of (Some (UpTo623 p)) = p ∷ []
values_of (Some (Above623 p)) = p ∷ []
values_of None = []
