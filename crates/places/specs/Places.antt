-- Where a query lies: the region table of (p,T), and the regions of (p,h) and (p,s). Refusals come in the order of the refusal table. Definitions only.
-- A comparison with NaN is false.
use Rattle.std.specs.Prelude.{Bool, false, cond, not, ◌||◌, Float, Option, Some, None, Result, Ok, Err}
use Rattle.std.specs.Float.Ieee.{lt, le}
use Rattle.arith.specs.F64.{f64}
use Rattle.arith.specs.Printed.{less, printed}
use Rattle.arith.specs.Bits.{finite}
use Rattle.refusals.specs.declared.Refusal.{Refusal}
use Rattle.saturation_line.specs.Printed.{ts_of}
use Rattle.saturation_line.specs.Pressure.{ps_of}
use Rattle.saturation_line.specs.declared.SaturationPressure.{SaturationPressure}
use Rattle.saturation_line.specs.declared.SaturationPressure.TheVariants.{UpTo623, Above623}
use Rattle.boundaries.specs.Boundaries.{p_b23, t_b23}
use Rattle.places.specs.declared.Side.{Side}
use Rattle.equations.specs.declared.Equation.{Equation}
use Rattle.equations.specs.declared.Equation.TheVariants.{Region1, Region2, Region3, Region5}
use Rattle.equations.specs.declared.Phase.{Phase}
use Rattle.equations.specs.declared.Phase.TheVariants.{Liquid, Vapour}
use Rattle.workings.specs.declared.Given.{Given}
use Rattle.workings.specs.Workings.{property_at}

-- an input that is NaN or infinite
abbrev pub wild : Float → Float → Bool
wild x y = not (finite x) || not (finite y)

-- below the first or above the second: the ends themselves are inside
abbrev pub outside : Float → Float → Float → Bool
outside least most x = lt x least || lt most x

-- temperatures in K
abbrev pub t273 : Float
t273 = printed false 27315 (less 2)

abbrev pub t623 : Float
t623 = printed false 62315 (less 2)

abbrev pub t863 : Float
t863 = printed false 86315 (less 2)

abbrev pub t1073 : Float
t1073 = printed false 107315 (less 2)

abbrev pub t2273 : Float
t2273 = printed false 227315 (less 2)

-- pressures in MPa: the house limit of (p,T), the least of the other kinds, the greatest of all, and the greatest of region 5
abbrev pub p_house : Float
p_house = printed false 1 (less 6)

abbrev pub p_triple : Float
p_triple = printed false 611213 (less 9)

abbrev pub p_most : Float
p_most = f64 100

abbrev pub p_most5 : Float
p_most5 = f64 50

-- P = ps(623.15), at the last temperature at which the saturation line parts regions 1 and 2
unfoldable pub p_end : Option SaturationPressure
p_end = ps_of t623

-- whether p is at most a saturation pressure of the case up to 623.15 K; of the other case, or of none, it is not
abbrev pub up_to : Option SaturationPressure → Float → Bool
up_to (Some (UpTo623 ps)) p = le p ps
up_to (Some (Above623 ps)) p = false
up_to None p = false

-- p ≤ P
unfoldable pub saturates : Float → Bool
saturates p = up_to p_end p

-- ---- (p,T)

-- up to 623.15 K, by the saturation pressure
abbrev pub beside_of : Float → Float → Equation
beside_of p ps = cond (le ps p) Region1 Region2

-- above that, read downwards
unfoldable pub above_of : Float → Float → Result Equation Refusal
above_of p t =
    cond (le t t863) (cond (le p (p_b23 t)) (Ok Region2) (Ok Region3))
    (cond (le t t1073) (Ok Region2)
    (cond (le p p_most5) (Ok Region5) (Err Refusal.AboveRegion5)))

-- The region table of a T in its range: up to 623.15 K by the saturation pressure; above that, whether there still is one or none, its value is not used.
abbrev pub lined_of : Float → Float → Option SaturationPressure → Result Equation Refusal
lined_of p t (Some (UpTo623 ps)) = Ok (beside_of p ps)
lined_of p t (Some (Above623 ps)) = above_of p t
lined_of p t None = above_of p t

unfoldable pub table_of : Float → Float → Result Equation Refusal
table_of p t = lined_of p t (ps_of t)

unfoldable pub place_pt : Float → Float → Result Equation Refusal
place_pt p t =
    cond (wild p t) (Err Refusal.NotFinite)
    (cond (outside p_house p_most p) (Err Refusal.Pressure)
    (cond (outside t273 t2273 t) (Err Refusal.Temperature)
    (table_of p t)))

-- ---- (p,h) and (p,s): y is the h or s given

-- p ≤ P: y' and y'' are those of saturated liquid and vapour at Ts(p), and both are wet
unfoldable pub saturated_of : Given → Float → Float → Side
saturated_of given p y =
    cond (lt y (property_at given Liquid p (ts_of p))) (Side.Phase Liquid)
    (cond (le y (property_at given Vapour p (ts_of p))) (Side.Wet (ts_of p))
    (Side.Phase Vapour))

-- p > P: between the liquid up to 623.15 K and the vapour from the boundary B23 on lies region 3, which is refused
unfoldable pub dense_of : Given → Float → Float → Result Phase Refusal
dense_of given p y =
    cond (le y (property_at given Liquid p t623)) (Ok Liquid)
    (cond (le (property_at given Vapour p (t_b23 p)) y) (Ok Vapour)
    (Err Refusal.Region3))

abbrev pub in_phase : Result Phase Refusal → Result Side Refusal
in_phase (Ok phase) = Ok (Side.Phase phase)
in_phase (Err refusal) = Err refusal

-- y runs from that of region 1 at 273.15 K to that of region 2 at 1073.15 K
unfoldable pub ranged_of : Given → Float → Float → Result Side Refusal
ranged_of given p y =
    cond (outside (property_at given Liquid p t273) (property_at given Vapour p t1073) y) (Err Refusal.EnthalpyOrEntropy)
    (cond (saturates p) (Ok (saturated_of given p y))
    (in_phase (dense_of given p y)))

unfoldable pub place_py : Given → Float → Float → Result Side Refusal
place_py given p y =
    cond (wild p y) (Err Refusal.NotFinite)
    (cond (outside p_triple p_most p) (Err Refusal.Pressure)
    (ranged_of given p y))

-- the temperature at which region 1 ends, and at which region 2 begins: the saturation line up to P, region 3's boundaries above
unfoldable pub liquid_end : Float → Float
liquid_end p = cond (saturates p) (ts_of p) t623

unfoldable pub vapour_start : Float → Float
vapour_start p = cond (saturates p) (ts_of p) (t_b23 p)
