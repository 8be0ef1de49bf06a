-- P = ps(623.15), worked out, is 16.529164252604478 MPa, of the case up to 623.15 K, so that p ≤ P is a comparison with what Eq. (28) gives at 623.15 K.
-- Assumes nothing.
use mathlib.Core.Path.{◌≡◌, refl}
use lib.Ieee.{Float, binary64, round, of_bits, of_int, add, sub, mul, div, neg, lt, eq, le}
use Rattle.arith.specs.Printed.{printed}
use Rattle.elementary.specs.Root.{floor_root, near_root, root_units, root_of}
use Rattle.saturation_line.specs.Printed.{equation28}
use Rattle.saturation_line.specs.Pressure.{ps_of}
use Rattle.saturation_line.specs.declared.SaturationPressure.TheVariants.{UpTo623}
use Rattle.std.specs.Prelude.{Some}
use Rattle.places.specs.Places.{t623, p_end, saturates}

pub p_end_lem : p_end ≡ Some (UpTo623 (of_bits binary64 0x403087774ef72605))
unfolding p_end ps_of equation28 root_of root_units near_root floor_root printed round of_bits of_int add sub mul div neg lt eq le
p_end_lem = refl

pub saturates_as_printed : (p : Float) → saturates p ≡ le p (equation28 t623)
unfolding saturates p_end ps_of printed round lt eq le
saturates_as_printed p = refl
