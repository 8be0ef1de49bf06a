-- A standing is refused where its place is, and has the number and the region of the place that it was made of. Assumes nothing.
use mathlib.Core.Path.{◌≡◌, refl, ap}
use mathlib.Core.Bool.{Bool, true, false, cond}
use lib.Ieee.{Float}
use Rattle.std.specs.Prelude.{Result, Ok, Err}
use Rattle.refusals.specs.Refusals.{number_in}
use Rattle.refusals.specs.declared.Refusal.{Refusal}
use Rattle.saturation_line.specs.Printed.{ts_of}
use Rattle.workings.specs.declared.Given.{Given}
use Rattle.places.specs.Places.{saturates, place_py}
use Rattle.places.specs.Answers.{side_region_of, standing_region_of}
use Rattle.places.specs.Standing.{beside_line, beyond_line, standing_of, standing_py, side_of, place_of}
use Rattle.places.specs.declared.Side.{Side}

pub refused_stands : {E : Type 0} (p : Float) (refusal : E) → standing_of p (Err refusal) ≡ Err refusal
unfolding standing_of
refused_stands p refusal = refl

kept : (b : Bool) (ts : Float) (side : Side) → side_of (cond b (beside_line ts side) (beyond_line side)) ≡ side
kept true ts (Side.Phase phase) = refl
kept true ts (Side.Wet t) = refl
kept false ts (Side.Phase phase) = refl
kept false ts (Side.Wet t) = refl

place_kept : (p : Float) (place : Result Side Refusal) → place_of (standing_of p place) ≡ place
unfolding standing_of
place_kept p (Ok side) = ap Ok (kept (saturates p) (ts_of p) side)
place_kept p (Err refusal) = refl

pub side_kept : (given : Given) (p y : Float) → place_of (standing_py given p y) ≡ place_py given p y
unfolding standing_py
side_kept given p y = place_kept p (place_py given p y)

number_kept : (p : Float) (place : Result Side Refusal) → number_in (standing_of p place) ≡ number_in place
unfolding standing_of
number_kept p (Ok side) = refl
number_kept p (Err refusal) = refl

pub standing_number : (given : Given) (p y : Float) → number_in (standing_py given p y) ≡ number_in (place_py given p y)
unfolding standing_py
standing_number given p y = number_kept p (place_py given p y)

pub standing_region : (given : Given) (p y : Float) → standing_region_of (standing_py given p y) ≡ side_region_of (place_py given p y)
standing_region given p y = ap side_region_of (side_kept given p y)
