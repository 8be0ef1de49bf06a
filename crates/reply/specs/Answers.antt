-- What an answer says in the paper's words: its region, mark and values for each case. Definitions only.
use Rattle.std.specs.Prelude.{ℕ, Bool, false, List, [], ◌∷◌, Float, Option, Some, None, Result, Ok, Err}
use Rattle.equations.specs.Equations as Equations
use Rattle.reply.specs.declared.Answer.{Answer}

-- the region, 0 if refused
abbrev pub region_of : {E : Type 0} → Result Answer E → ℕ
region_of (Ok (Answer.Single a)) = Equations.region_of a.equation
region_of (Ok (Answer.Wet a)) = 4
region_of (Err why) = 0

-- whether it is a state that is verified
abbrev pub mark_of : {E : Type 0} → Result Answer E → Bool
mark_of (Ok (Answer.Single a)) = a.verified
mark_of (Ok (Answer.Wet a)) = a.verified
mark_of (Err why) = false

-- p, T, v, u, h, s, cp, w and x: a state of one phase has no quality x, a wet state no cp and no w, a refusal nothing
abbrev pub values_of : {E : Type 0} → Result Answer E → List (Option Float)
values_of (Ok (Answer.Single a)) =
    Some a.p
    ∷ Some a.t
    ∷ Some a.state.v
    ∷ Some a.state.u
    ∷ Some a.state.h
    ∷ Some a.state.s
    ∷ Some a.state.cp
    ∷ Some a.state.w
    ∷ None
    ∷ []
values_of (Ok (Answer.Wet a)) =
    Some a.p ∷ Some a.t ∷ Some a.v ∷ Some a.u ∷ Some a.h ∷ Some a.s ∷ None ∷ None ∷ Some a.x ∷ []
values_of (Err why) =
    None ∷ None ∷ None ∷ None ∷ None ∷ None ∷ None ∷ None ∷ None ∷ []
