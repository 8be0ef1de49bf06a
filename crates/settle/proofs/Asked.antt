-- A post is judged as the same query asked at once: it is refused where that is, by the same number, and where that is wet, by 8; and its region is that of the
-- state, its bracket that of the region (`judged_number`, `judged_region`, `judged_values`). Assumes nothing.
use mathlib.Core.Path.{◌≡◌, refl, subst, sym}
use mathlib.Core.Bool.{Bool, true, false, cond, ◌||◌}
use mathlib.Core.List.{List, [], ◌∷◌}
use Prim.Native.Nat.{ℕ}
use lib.Dec.{eqb}
use lib.Ieee.{Float}
use borrow.Author.Tests.{eqb-true}
use Rattle.std.specs.Prelude.{Result, Ok, Err}
use Rattle.refusals.specs.Refusals.{number_of, number_in}
use Rattle.refusals.specs.declared.Refusal.{Refusal}
use Rattle.states.specs.Marks.{marked_of}
use Rattle.workings.specs.declared.Given.{Given}
use Rattle.workings.specs.declared.Given.TheVariants.{Enthalpy, Entropy}
use Rattle.equations.specs.declared.Phase.TheVariants.{Liquid, Vapour}
use Rattle.places.specs.Places.{place_py}
use Rattle.places.specs.declared.Side.{Side}
use Rattle.sums.specs.Queries.{placed_py, answer_py, answer_of}
use Rattle.reply.specs.Answers as Sums
use Rattle.reply.specs.declared.Answer.{Answer}
use Rattle.settle.specs.Settle.{posted_of, given_of, bracket_of, judged_by, judged_of}
use Rattle.settle.specs.Answers.{region_of, values_of}
use Rattle.settle.specs.Phases.{phase_of}

-- of an answer, what a post of it is refused by, and the region that it is halved in
abbrev pub refusal_of : Result Answer Refusal → ℕ
refusal_of (Ok (Answer.Single a)) = 0
refusal_of (Ok (Answer.Wet a)) = 8
refusal_of (Err refusal) = number_of refusal

abbrev pub halved_in : Result Answer Refusal → ℕ
halved_in (Ok (Answer.Single a)) = Sums.region_of {E = Refusal} (Ok (Answer.Single a))
halved_in (Ok (Answer.Wet a)) = 0
halved_in (Err refusal) = 0

-- and the ends of the bracket there
abbrev pub bracket_in : Float → Result Answer Refusal → List Float
bracket_in p (Ok (Answer.Single a)) = let b = bracket_of (phase_of (Sums.region_of {E = Refusal} (Ok (Answer.Single a)))) p in b.lo ∷ b.hi ∷ []
bracket_in p (Ok (Answer.Wet a)) = []
bracket_in p (Err refusal) = []

number_placed : (given : Given) (p y : Float) (w : Result Side Refusal) → number_in (judged_by p w) ≡ refusal_of (placed_py given p y w)
number_placed given p y (Ok (Side.Phase phase)) = refl
number_placed given p y (Ok (Side.Wet t)) = refl
number_placed given p y (Err refusal) = refl

region_placed : (given : Given) (p y : Float) (w : Result Side Refusal) → region_of (judged_by p w) ≡ halved_in (placed_py given p y w)
unfolding marked_of
region_placed given p y (Ok (Side.Phase phase)) = refl
region_placed given p y (Ok (Side.Wet t)) = refl
region_placed given p y (Err refusal) = refl

values_placed : (given : Given) (p y : Float) (w : Result Side Refusal) → values_of (judged_by p w) ≡ bracket_in p (placed_py given p y w)
unfolding marked_of
values_placed given p y (Ok (Side.Phase Liquid)) = refl
values_placed given p y (Ok (Side.Phase Vapour)) = refl
values_placed given p y (Ok (Side.Wet t)) = refl
values_placed given p y (Err refusal) = refl

-- kinds 2 and 3 are asked by h and by s
by_kind : (kind : ℕ) (p y : Float) → posted_of kind ≡ true → answer_of kind p y ≡ answer_py (given_of kind) p y
unfolding answer_of
by_kind kind p y = go (eqb kind 2) (eqb kind 3) (eqb-true kind 2) (eqb-true kind 3)
  where
    go : (b c : Bool) → (b ≡ true → kind ≡ 2) → (c ≡ true → kind ≡ 3) → (b || c) ≡ true → answer_of kind p y ≡ answer_py (cond b Enthalpy Entropy) p y
    go true c f g e = subst (λ n. answer_of n p y ≡ answer_py Enthalpy p y) (sym (f refl)) refl
    go false true f g e = subst (λ n. answer_of n p y ≡ answer_py Entropy p y) (sym (g refl)) refl
    go false false f g e = cc

pub judged_number : (kind : ℕ) (p y : Float) → posted_of kind ≡ true → number_in (judged_of kind p y) ≡ refusal_of (answer_of kind p y)
unfolding judged_of answer_py
judged_number kind p y e = rw (by_kind kind p y e, e) (number_placed (given_of kind) p y (place_py (given_of kind) p y))

pub judged_region : (kind : ℕ) (p y : Float) → posted_of kind ≡ true → region_of (judged_of kind p y) ≡ halved_in (answer_of kind p y)
unfolding judged_of answer_py
judged_region kind p y e = rw (by_kind kind p y e, e) (region_placed (given_of kind) p y (place_py (given_of kind) p y))

pub judged_values : (kind : ℕ) (p y : Float) → posted_of kind ≡ true → values_of (judged_of kind p y) ≡ bracket_in p (answer_of kind p y)
unfolding judged_of answer_py
judged_values kind p y e = rw (by_kind kind p y e, e) (values_placed (given_of kind) p y (place_py (given_of kind) p y))
