-- What an answer on the saturation pressure says in the request's words: the place and the value of each case. Its refusal's number is that of the table. Definitions only.
use Rattle.std.specs.Prelude.{ℕ, Float, Option, Some, None, Result, Ok, Err}
use Rattle.saturation_line.specs.declared.SaturationPressure.{SaturationPressure}
use Rattle.saturation_line.specs.declared.SaturationPressure.TheVariants.{UpTo623, Above623}

-- the place, which is no region: 1 up to 623.15 K, 2 above that, 0 if refused
abbrev pub place_of : {E : Type 0} → Result SaturationPressure E → ℕ
place_of (Ok (UpTo623 p)) = 1
place_of (Ok (Above623 p)) = 2
place_of (Err refusal) = 0

-- p, unless refused
abbrev pub value_of : {E : Type 0} → Result SaturationPressure E → Option Float
value_of (Ok (UpTo623 p)) = Some p
value_of (Ok (Above623 p)) = Some p
value_of (Err refusal) = None
