-- The density at p and T in region 3: sixty halvings, by the pressure at the middle density. Definitions only.
use Rattle.std.specs.Prelude.{ℕ, Bool, false, cond, Float, Option, Some, None}
use Rattle.std.specs.Float.Ieee.{lt, le}
use Rattle.arith.specs.F64.{f64}
use Rattle.brackets.specs.Brackets.{middle_of, half_of, times}
use Rattle.brackets.specs.declared.Bracket.{Bracket}
use Rattle.saturation_line.specs.Pressure.{ps_of}
use Rattle.saturation_line.specs.declared.SaturationPressure.{SaturationPressure}
use Rattle.saturation_line.specs.declared.SaturationPressure.TheVariants.{UpTo623, Above623}
use Rattle.dense.specs.Region3.{density*, T*, pressure3}

-- the least and the greatest density in kg/m³ that are sought, and how often a bracket is halved
abbrev pub least3 : Float
least3 = f64 50

abbrev pub most3 : Float
most3 = f64 800

abbrev pub halvings3 : ℕ
halvings3 = 60

-- p ≥ ps(T), of whichever case; it does not hold where there is no saturation pressure
abbrev pub reaches3 : Option SaturationPressure → Float → Bool
reaches3 (Some (UpTo623 ps)) p = le ps p
reaches3 (Some (Above623 ps)) p = le ps p
reaches3 None p = false

-- From the critical temperature on the bracket is whole. Below it the critical density parts liquid, from ps(T) on, and vapour.
unfoldable pub first3 : Float → Float → Bracket
first3 p t =
    cond (le T* t) (record { lo = least3; hi = most3 })
    (cond (reaches3 (ps_of t) p) (record { lo = density*; hi = most3 })
    (record { lo = least3; hi = density* }))

-- if p(mid,T) < p asked, lo = mid, else hi = mid
unfoldable pub halved3 : Float → Float → Bracket → Bracket
halved3 p t b = half_of b.lo b.hi (lt (pressure3 (middle_of b.lo b.hi) t) p)

-- the middle of the last bracket
unfoldable pub density3 : Float → Float → Float
density3 p t = let b = times (halved3 p t) halvings3 (first3 p t) in middle_of b.lo b.hi
