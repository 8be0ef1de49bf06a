-- The saturation pressure, by where T stands: Eq. (28) of 002 is taken from 273.15 to 647.096 K, the critical temperature, and region 3 begins at 623.15 K. Elsewhere
-- there is no answer. A comparison with NaN is false, so that NaN has none. Definitions only.
use Rattle.std.specs.Prelude.{Bool, false, cond, ◌&&◌, Float, Option, Some, None}
use Rattle.std.specs.Float.Ieee.{lt, le}
use Rattle.arith.specs.Printed.{less, printed}
use Rattle.saturation_line.specs.Printed.{equation28}
use Rattle.saturation_line.specs.declared.SaturationPressure.{SaturationPressure}
use Rattle.saturation_line.specs.declared.SaturationPressure.TheVariants.{UpTo623, Above623}

-- temperatures in K
abbrev pub t273 : Float
t273 = printed false 27315 (less 2)

abbrev pub t623 : Float
t623 = printed false 62315 (less 2)

abbrev pub t647 : Float
t647 = printed false 647096 (less 3)

-- from 273.15 up to 623.15
abbrev pub up_to623 : Float → Bool
up_to623 t = le t273 t && le t t623

-- above that, up to 647.096
abbrev pub above623 : Float → Bool
above623 t = lt t623 t && le t t647

unfoldable pub ps_of : Float → Option SaturationPressure
ps_of t =
    cond (up_to623 t) (Some (UpTo623 (equation28 t)))
    (cond (above623 t) (Some (Above623 (equation28 t)))
    None)
