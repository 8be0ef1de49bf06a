-- Where (p,h) or (p,s) is liquid up to P, Ts(p) is no NaN: at a T that is NaN h and s of region 1 are NaN, and no y is below that. Assumes nothing.
use mathlib.Core.Path.{◌≡◌, refl, ap, sym, ◌∙◌}
use mathlib.Core.Bool.{Bool, true, false, false≢true, cond}
use lib.Ieee.{Float, nan, inf, fin, is_nan, lt, le}
use Rattle.std.specs.Prelude.{Result, Ok, Err}
use Rattle.refusals.specs.declared.Refusal.{Refusal}
use Rattle.equations.specs.declared.Phase.TheVariants.{Liquid, Vapour}
use Rattle.saturation_line.specs.Printed.{ts_of}
use Rattle.workings.specs.declared.Given.{Given}
use Rattle.workings.specs.Workings.{property_at}
use Rattle.workings.proofs.AtNan.{liquid_at_nan}
use Rattle.places.specs.Places.{wild, outside, p_triple, p_most, t273, t1073, saturates, saturated_of, ranged_of, place_py}
use Rattle.places.specs.declared.Side.{Side}

below_nan : (y : Float) → lt y nan ≡ false
unfolding lt
below_nan nan = refl
below_nan (inf s) = refl
below_nan (fin s m e) = refl

abbrev is_liquid : Result Side Refusal → Bool
is_liquid (Ok (Side.Phase Liquid)) = true
is_liquid (Ok (Side.Phase Vapour)) = false
is_liquid (Ok (Side.Wet t)) = false
is_liquid (Err refusal) = false

either : (b : Bool) (x y : Result Side Refusal) → is_liquid x ≡ false → is_liquid y ≡ false → is_liquid (cond b x y) ≡ false
either true x y h k = h
either false x y h k = k

saturated_nan : (given : Given) (p y : Float) → ts_of p ≡ nan → is_liquid (Ok (saturated_of given p y)) ≡ false
unfolding saturated_of
saturated_nan given p y e = rw (e, liquid_at_nan given p, below_nan y) (wet_or_vapour (le y (property_at given Vapour p nan)))
  where
    wet_or_vapour : (b : Bool) → is_liquid (Ok (cond b (Side.Wet nan) (Side.Phase Vapour))) ≡ false
    wet_or_vapour true = refl
    wet_or_vapour false = refl

place_nan : (given : Given) (p y : Float) → saturates p ≡ true → ts_of p ≡ nan → is_liquid (place_py given p y) ≡ false
unfolding place_py ranged_of
place_nan given p y up_to_lem e =
    let saturated = saturated_nan given p y e in
    let low = outside (property_at given Liquid p t273) (property_at given Vapour p t1073) y in
    rw up_to_lem
    (either (wild p y) (Err Refusal.NotFinite) _ refl
    (either (outside p_triple p_most p) (Err Refusal.Pressure) _ refl
    (either low (Err Refusal.EnthalpyOrEntropy) (Ok (saturated_of given p y)) refl saturated)))

pub line_known : (given : Given) (p y : Float) → saturates p ≡ true → place_py given p y ≡ Ok (Side.Phase Liquid) → is_nan (ts_of p) ≡ false
unfolding is_nan
line_known given p y up_to_lem place = go (ts_of p) refl
  where
    go : (ts : Float) → ts_of p ≡ ts → is_nan ts ≡ false
    go nan e = absurd (false≢true (sym (place_nan given p y up_to_lem e) ∙ ap is_liquid place))
    go (inf s) e = refl
    go (fin s m k) e = refl
