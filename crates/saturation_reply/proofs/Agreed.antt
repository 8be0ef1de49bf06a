-- The answer on the saturation pressure has the place and the value that the line gives, and its number where T is finite. Assumes nothing.
use mathlib.Core.Path.{◌≡◌, refl, ap, ◌∙◌}
use mathlib.Core.Bool.{Bool, true, false, cond}
use mathlib.Core.List.{List, [], ◌∷◌}
use Prim.Native.Nat.{ℕ}
use lib.Ieee.{Float}
use Rattle.std.specs.Prelude.{Option, Some, None, Err}
use Rattle.arith.specs.Bits.{finite}
use Rattle.refusals.specs.Refusals.{number_in}
use Rattle.refusals.specs.declared.Refusal.{Refusal}
use Rattle.saturation_line.specs.Pressure.{ps_of}
use Rattle.saturation_line.specs.Answers as Line
use Rattle.saturation_line.proofs.Told.{on_line, number_told, not_finite_nowhere}
use Rattle.saturation_line.specs.declared.SaturationPressure.{SaturationPressure}
use Rattle.saturation_line.specs.declared.SaturationPressure.TheVariants.{UpTo623, Above623}
use Rattle.saturation_reply.specs.Answers.{place_of, value_of}
use Rattle.saturation_reply.specs.Asked.{said_of, saturation_of}

number_said : (s : Option SaturationPressure) → number_in (said_of s) ≡ Line.number_of s
number_said (Some (UpTo623 p)) = refl
number_said (Some (Above623 p)) = refl
number_said None = refl

place_said : (s : Option SaturationPressure) → place_of (said_of s) ≡ Line.place_of s
place_said (Some (UpTo623 p)) = refl
place_said (Some (Above623 p)) = refl
place_said None = refl

-- the value of an answer as a list, as the line gives its own
abbrev pub listed : Option Float → List Float
listed (Some p) = p ∷ []
listed None = []

values_said : (s : Option SaturationPressure) → listed (value_of (said_of s)) ≡ Line.values_of s
values_said (Some (UpTo623 p)) = refl
values_said (Some (Above623 p)) = refl
values_said None = refl

pub saturation_number : (t : Float) → number_in (saturation_of t) ≡ cond (finite t) (Line.number_of (ps_of t)) 1
unfolding saturation_of
saturation_number t = go (finite t)
  where
    go : (b : Bool) → number_in (cond b (said_of (ps_of t)) (Err Refusal.NotFinite)) ≡ cond b (Line.number_of (ps_of t)) 1
    go true = number_said (ps_of t)
    go false = refl

-- 0 on the line, 3 off it, 1 where T is not finite
pub saturation_refused : (t : Float) → number_in (saturation_of t) ≡ cond (finite t) (cond (on_line t) 0 3) 1
saturation_refused t = saturation_number t ∙ ap (λ (n : ℕ). cond (finite t) n 1) (number_told t)

pub saturation_place : (t : Float) → place_of (saturation_of t) ≡ Line.place_of (ps_of t)
unfolding saturation_of
saturation_place t = go (finite t) refl
  where
    go : (b : Bool) → finite t ≡ b → place_of (cond b (said_of (ps_of t)) (Err Refusal.NotFinite)) ≡ Line.place_of (ps_of t)
    go true e = place_said (ps_of t)
    go false e = rw (not_finite_nowhere t e) refl

pub saturation_values : (t : Float) → listed (value_of (saturation_of t)) ≡ Line.values_of (ps_of t)
unfolding saturation_of
saturation_values t = go (finite t) refl
  where
    go : (b : Bool) → finite t ≡ b → listed (value_of (cond b (said_of (ps_of t)) (Err Refusal.NotFinite))) ≡ Line.values_of (ps_of t)
    go true e = values_said (ps_of t)
    go false e = rw (not_finite_nowhere t e) refl
