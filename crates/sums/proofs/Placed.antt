-- The answer to a query has the number and the region of its place, and a wet one its T. Assumes nothing.
use mathlib.Core.Path.{◌≡◌, refl}
use mathlib.Core.List.{List, [], ◌∷◌}
use lib.Ieee.{Float}
use Rattle.std.specs.Prelude.{Result, Ok, Err}
use Rattle.states.specs.Marks.{marked_of}
use Rattle.states.specs.Mixing.{mixture_of, wet_of}
use Rattle.workings.specs.declared.Given.{Given}
use Rattle.places.specs.Answers as Places
use Rattle.places.specs.Places.{place_pt, place_py}
use Rattle.equations.specs.declared.Equation.{Equation}
use Rattle.places.specs.declared.Side.{Side}
use Rattle.refusals.specs.Refusals.{number_in}
use Rattle.refusals.specs.declared.Refusal.{Refusal}
use Rattle.reply.specs.Answers.{region_of}
use Rattle.reply.specs.declared.Answer.{Answer}
use Rattle.sums.specs.Queries.{placed_pt, answer_pt, placed_py, answer_py}

number_placed : (p t : Float) (w : Result Equation Refusal) → number_in (placed_pt p t w) ≡ number_in w
number_placed p t (Ok equation) = refl
number_placed p t (Err refusal) = refl

region_placed : (p t : Float) (w : Result Equation Refusal) → region_of (placed_pt p t w) ≡ Places.region_of w
region_placed p t (Ok equation) = refl
region_placed p t (Err refusal) = refl

pub pt_number : (p t : Float) → number_in (answer_pt p t) ≡ number_in (place_pt p t)
unfolding answer_pt
pt_number p t = number_placed p t (place_pt p t)

pub pt_region : (p t : Float) → region_of (answer_pt p t) ≡ Places.region_of (place_pt p t)
unfolding answer_pt
pt_region p t = region_placed p t (place_pt p t)

number_sided : (given : Given) (p y : Float) (w : Result Side Refusal) → number_in (placed_py given p y w) ≡ number_in w
number_sided given p y (Ok (Side.Phase phase)) = refl
number_sided given p y (Ok (Side.Wet t)) = refl
number_sided given p y (Err refusal) = refl

region_sided : (given : Given) (p y : Float) (w : Result Side Refusal) → region_of (placed_py given p y w) ≡ Places.side_region_of w
unfolding marked_of
region_sided given p y (Ok (Side.Phase phase)) = refl
region_sided given p y (Ok (Side.Wet t)) = refl
region_sided given p y (Err refusal) = refl

pub py_number : (given : Given) (p y : Float) → number_in (answer_py given p y) ≡ number_in (place_py given p y)
unfolding answer_py
py_number given p y = number_sided given p y (place_py given p y)

pub py_region : (given : Given) (p y : Float) → region_of (answer_py given p y) ≡ Places.side_region_of (place_py given p y)
unfolding answer_py
py_region given p y = region_sided given p y (place_py given p y)

-- the T of a wet answer; no other has it of its place
abbrev pub wet_at : Result Answer Refusal → List Float
wet_at (Ok (Answer.Single a)) = []
wet_at (Ok (Answer.Wet a)) = a.t ∷ []
wet_at (Err refusal) = []

values_sided : (given : Given) (p y : Float) (w : Result Side Refusal) → wet_at (placed_py given p y w) ≡ Places.side_values_of w
unfolding wet_of mixture_of
values_sided given p y (Ok (Side.Phase phase)) = refl
values_sided given p y (Ok (Side.Wet t)) = refl
values_sided given p y (Err refusal) = refl

pub py_values : (given : Given) (p y : Float) → wet_at (answer_py given p y) ≡ Places.side_values_of (place_py given p y)
unfolding answer_py
py_values given p y = values_sided given p y (place_py given p y)
