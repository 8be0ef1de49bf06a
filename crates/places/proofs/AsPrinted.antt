-- The region table of (p,T) is that of 01, as 02 changes it, with the saturation pressure and the boundary evaluated as printed: no answer turns on where ps(T)
-- stands. Assumes nothing.
use mathlib.Core.Path.{◌≡◌, refl, sym, ◌∙◌}
use mathlib.Core.Bool.{Bool, true, false, not, cond, ◌||◌}
use lib.Ieee.{Float, nan, inf, fin, lt, le, is_nan, round}
use borrow.Author.Tests.{not-false}
use Rattle.std.specs.Prelude.{Some, None, Result, Ok, Err}
use Rattle.arith.specs.Bits.{finite}
use Rattle.arith.specs.Printed.{printed}
use Rattle.arith.proofs.Order.{lt_is_not_le}
use Rattle.saturation_line.specs.Printed.{equation28}
use Rattle.saturation_line.specs.Pressure.{above623, ps_of}
use Rattle.saturation_line.specs.declared.SaturationPressure.TheVariants.{UpTo623, Above623}
use Rattle.places.specs.Places.{wild, outside, t273, t623, t863, t1073, t2273, p_house, p_most, p_most5, beside_of, above_of, lined_of, table_of, place_pt}
use Rattle.refusals.specs.declared.Refusal.{Refusal}
use Rattle.equations.specs.declared.Equation.{Equation}
use Rattle.equations.specs.declared.Equation.TheVariants.{Region1, Region2, Region3, Region5}
use Rattle.boundaries.specs.Boundaries.{p_b23}

-- the table of 01, as 02 changes it, read downwards
abbrev pub printed_table : Float → Float → Result Equation Refusal
printed_table p t =
    cond (le t t623) (Ok (cond (le (equation28 t) p) Region1 Region2))
    (cond (le t t863) (cond (le p (p_b23 t)) (Ok Region2) (Ok Region3))
    (cond (le t t1073) (Ok Region2)
    (cond (le p p_most5) (Ok Region5) (Err Refusal.AboveRegion5))))

-- from 273.15 K on
table_as_printed : (p t : Float) → le t273 t ≡ true → table_of p t ≡ printed_table p t
unfolding table_of above_of ps_of
table_as_printed p t h = rw h (go (le t t623) (above623 t))
  where
    go : (b w : Bool) → lined_of p t (cond b (Some (UpTo623 (equation28 t))) (cond w (Some (Above623 (equation28 t))) None)) ≡ cond b (Ok (beside_of p (equation28 t))) (above_of p t)
    go true w = refl
    go false true = refl
    go false false = refl

-- ---- a T that is not refused by 1 or 3 is from 273.15 K on

finite_number : (t : Float) → finite t ≡ true → is_nan t ≡ false
unfolding finite is_nan
finite_number nan h = sym h
finite_number (inf s) h = refl
finite_number (fin s m e) h = refl

second_finite : (p t : Float) → wild p t ≡ false → finite t ≡ true
second_finite p t = go (finite p) (finite t)
  where
    go : (a b : Bool) → not a || not b ≡ false → b ≡ true
    go a true h = refl
    go false false h = sym h
    go true false h = sym h

not_below : (t : Float) → outside t273 t2273 t ≡ false → lt t t273 ≡ false
not_below t = go (lt t t273) (lt t2273 t)
  where
    go : (a b : Bool) → a || b ≡ false → a ≡ false
    go false b h = refl
    go true b h = h

printed_number : is_nan t273 ≡ false
unfolding printed round is_nan
printed_number = refl

from_273 : (p t : Float) → wild p t ≡ false → outside t273 t2273 t ≡ false → le t273 t ≡ true
from_273 p t w o = not-false (le t273 t) (sym (lt_is_not_le t273 t printed_number (finite_number t (second_finite p t w))) ∙ not_below t o)

-- ---- the whole of it

pub place_as_printed : (p t : Float)
    → place_pt p t ≡ cond (wild p t) (Err Refusal.NotFinite) (cond (outside p_house p_most p) (Err Refusal.Pressure) (cond (outside t273 t2273 t) (Err Refusal.Temperature) (printed_table p t)))
unfolding place_pt
place_as_printed p t = go (wild p t) (outside p_house p_most p) (outside t273 t2273 t) refl refl
  where
    go : (w o r : Bool) → wild p t ≡ w → outside t273 t2273 t ≡ r
        → cond w (Err Refusal.NotFinite) (cond o (Err Refusal.Pressure) (cond r (Err Refusal.Temperature) (table_of p t))) ≡ cond w (Err Refusal.NotFinite) (cond o (Err Refusal.Pressure) (cond r (Err Refusal.Temperature) (printed_table p t)))
    go true o r e f = refl
    go false true r e f = refl
    go false false true e f = refl
    go false false false e f = table_as_printed p t (from_273 p t e f)
