-- The saturation pressure asked for by itself. Definitions only.
use Rattle.std.specs.Prelude.{cond, Float, Option, Result, Err, ok_or}
use Rattle.arith.specs.Bits.{finite}
use Rattle.refusals.specs.declared.Refusal.{Refusal}
use Rattle.saturation_line.specs.Pressure.{ps_of}
use Rattle.saturation_line.specs.declared.SaturationPressure.{SaturationPressure}

-- what is said of it: where there is none, T is out of range
abbrev pub said_of : Option SaturationPressure → Result SaturationPressure Refusal
said_of s = ok_or s Refusal.Temperature

-- a T that is NaN or infinite is refused before its range is looked at
unfoldable pub saturation_of : Float → Result SaturationPressure Refusal
saturation_of t = cond (finite t) (said_of (ps_of t)) (Err Refusal.NotFinite)
