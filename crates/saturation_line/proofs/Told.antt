-- The three cases of a saturation pressure exclude each other and are told by T alone: none of them looks at what Eq. (28) gives. NaN and the infinities have no
-- answer. Assumes nothing.
use mathlib.Core.Path.{◌≡◌, refl, sym, ap, ◌∙◌}
use mathlib.Core.Bool.{Bool, true, false, not, cond, ◌&&◌, ◌||◌, true≢false}
use mathlib.Core.List.{[], ◌∷◌}
use lib.Dec.{eqb}
use lib.Ieee.{Float, nan, inf, fin, lt, eq, le, round}
use Rattle.arith.specs.Printed.{printed}
use Rattle.arith.specs.Bits.{finite}
use Rattle.arith.proofs.Order.{lt_le, le_excludes_lt, le_not_nan, lt_is_not_le, le_trans}
use Rattle.saturation_line.specs.Printed.{equation28}
use Rattle.saturation_line.specs.Pressure.{t273, t623, t647, up_to623, above623, ps_of}
use Rattle.saturation_line.specs.Answers.{number_of, place_of, values_of}
use Rattle.saturation_line.specs.declared.SaturationPressure.{SaturationPressure}
use Rattle.saturation_line.specs.declared.SaturationPressure.TheVariants.{UpTo623, Above623}
use Rattle.std.specs.Prelude.{Option, Some, None}

-- from 273.15 to 647.096 K, where 02 asks for an answer
abbrev pub on_line : Float → Bool
on_line t = le t273 t && le t t647

-- NaN and the infinities have no saturation pressure
pub not_finite_nowhere : (t : Float) → finite t ≡ false → ps_of t ≡ None
unfolding finite ps_of lt eq le printed round
not_finite_nowhere nan h = refl
not_finite_nowhere (inf true) h = refl
not_finite_nowhere (inf false) h = refl
not_finite_nowhere (fin s m e) h = absurd (true≢false h)

-- ---- the tests on T

from_273_to_623 : le t273 t623 ≡ true
unfolding printed round lt eq le
from_273_to_623 = refl

from_623_to_647 : le t623 t647 ≡ true
unfolding printed round lt eq le
from_623_to_647 = refl

-- no T is in both
pub exclusive : (t : Float) → up_to623 t && above623 t ≡ false
exclusive t = go (le t273 t) (le t t623) refl
  where
    go : (a b : Bool) → le t t623 ≡ b → (a && b) && (lt t623 t && le t t647) ≡ false
    go false b e = refl
    go true false e = refl
    go true true e = rw (le_excludes_lt t t623 e) refl

-- and every T of the line is in one of them
pub exhaustive : (t : Float) → up_to623 t || above623 t ≡ on_line t
exhaustive t = go (le t273 t) (le t t623) refl refl
  where
    -- above 623.15 K what is left to ask is whether the line has ended
    above : le t273 t ≡ true → le t t623 ≡ false → lt t623 t && le t t647 ≡ le t t647
    above a b = rw (lt_is_not_le t t623 (le_not_nan t273 t a).1 (le_not_nan t273 t623 from_273_to_623).1, b) refl

    -- below 273.15 K there is nothing above 623.15
    below : (c : Bool) → le t273 t ≡ false → lt t623 t ≡ c → c && le t t647 ≡ false
    below false a e = refl
    below true a e = absurd (true≢false (sym (le_trans t273 t623 t from_273_to_623 (lt_le t623 t e)) ∙ a))

    go : (a b : Bool) → le t273 t ≡ a → le t t623 ≡ b → (a && b) || (lt t623 t && le t t647) ≡ a && le t t647
    go false b e f = below (lt t623 t) e refl
    go true true e f = rw (le_trans t t623 t647 f from_623_to_647) refl
    go true false e f = above e f

-- ---- the cases

-- what the two tests and Eq. (28) make
abbrev chosen : Bool → Bool → Float → Option SaturationPressure
chosen b w p = cond b (Some (UpTo623 p)) (cond w (Some (Above623 p)) None)

place_1 : (b w : Bool) (p : Float) → eqb (place_of (chosen b w p)) 1 ≡ b
place_1 true w p = refl
place_1 false true p = refl
place_1 false false p = refl

place_2 : (b w : Bool) (p : Float) → b && w ≡ false → eqb (place_of (chosen b w p)) 2 ≡ w
place_2 true w p h = sym h
place_2 false true p h = refl
place_2 false false p h = refl

place_0 : (b w : Bool) (p : Float) → eqb (place_of (chosen b w p)) 0 ≡ not (b || w)
place_0 true w p = refl
place_0 false true p = refl
place_0 false false p = refl

number_by : (b w : Bool) (p : Float) → number_of (chosen b w p) ≡ cond (b || w) 0 3
number_by true w p = refl
number_by false true p = refl
number_by false false p = refl

values_by : (b w : Bool) (p : Float) → values_of (chosen b w p) ≡ cond (b || w) (p ∷ []) []
values_by true w p = refl
values_by false true p = refl
values_by false false p = refl

-- an answer up to 623.15 K exactly from 273.15 to 623.15 K
pub lower_told : (t : Float) → eqb (place_of (ps_of t)) 1 ≡ up_to623 t
unfolding ps_of
lower_told t = place_1 (up_to623 t) (above623 t) (equation28 t)

-- one above that exactly above 623.15, up to 647.096 K
pub upper_told : (t : Float) → eqb (place_of (ps_of t)) 2 ≡ above623 t
unfolding ps_of
upper_told t = place_2 (up_to623 t) (above623 t) (equation28 t) (exclusive t)

-- none exactly outside 273.15 to 647.096 K; else the pressure is Eq. (28)'s
pub none_told : (t : Float) → eqb (place_of (ps_of t)) 0 ≡ not (on_line t)
unfolding ps_of
none_told t = place_0 (up_to623 t) (above623 t) (equation28 t) ∙ ap not (exhaustive t)

pub number_told : (t : Float) → number_of (ps_of t) ≡ cond (on_line t) 0 3
unfolding ps_of
number_told t = number_by (up_to623 t) (above623 t) (equation28 t) ∙ ap (λ (b : Bool). cond b 0 3) (exhaustive t)

pub values_told : (t : Float) → values_of (ps_of t) ≡ cond (on_line t) (equation28 t ∷ []) []
unfolding ps_of
values_told t = values_by (up_to623 t) (above623 t) (equation28 t) ∙ ap (λ (b : Bool). cond b (equation28 t ∷ []) []) (exhaustive t)
