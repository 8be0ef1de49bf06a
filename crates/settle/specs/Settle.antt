-- What the settling layer publishes: a post judged, one halving, the state at the end. Definitions only.
use Rattle.std.specs.Prelude.{ℕ, Bool, cond, ◌||◌, eqb, Float, Result, Ok, Err}
use Rattle.std.specs.Float.Ieee.{lt}
use Rattle.brackets.specs.Brackets.{middle_of, half_of}
use Rattle.equations.specs.Equations.{equation_of}
use Rattle.workings.specs.Workings.{property_at}
use Rattle.states.specs.Marks.{marked_of}
use Rattle.places.specs.Places.{t273, t1073, place_py, liquid_end, vapour_start}
use Rattle.brackets.specs.declared.Bracket.{Bracket}
use Rattle.places.specs.declared.Side.{Side}
use Rattle.refusals.specs.declared.Refusal.{Refusal}
use Rattle.workings.specs.declared.Given.{Given}
use Rattle.workings.specs.declared.Given.TheVariants.{Enthalpy, Entropy}
use Rattle.equations.specs.declared.Phase.{Phase}
use Rattle.equations.specs.declared.Phase.TheVariants.{Liquid, Vapour}
use Rattle.settle.specs.declared.Settled.{Settled}
use Rattle.settle.specs.declared.Judged.{Judged}

-- the kinds that may be posted: 2 is (p,h), 3 is (p,s)
abbrev pub posted_of : ℕ → Bool
posted_of kind = eqb kind 2 || eqb kind 3

-- kind 2 gives h beside p, kind 3 s
abbrev pub given_of : ℕ → Given
given_of kind = cond (eqb kind 2) Enthalpy Entropy

-- Region 1 from 273.15 to Ts(p) if p ≤ P, else to 623.15; region 2 from Ts(p) if p ≤ P, else TB23(p), to 1073.15.
unfoldable pub bracket_of : Phase → Float → Bracket
bracket_of Liquid p = record { lo = t273; hi = liquid_end p }
bracket_of Vapour p = record { lo = vapour_start p; hi = t1073 }

-- A query is placed as everywhere; a wet one is refused, since one phase is needed.
abbrev pub judged_by : Float → Result Side Refusal → Result Judged Refusal
judged_by p (Ok (Side.Phase phase)) = let b = bracket_of phase p in Ok (record { phase = phase; lo = b.lo; hi = b.hi })
judged_by p (Ok (Side.Wet t)) = Err Refusal.WetOrSingular
judged_by p (Err refusal) = Err refusal

unfoldable pub judged_of : ℕ → Float → Float → Result Judged Refusal
judged_of kind p y = cond (posted_of kind) (judged_by p (place_py (given_of kind) p y)) (Err Refusal.UnknownNumber)

-- y(p,t) < y asked
unfoldable pub below_of : ℕ → Phase → Float → Float → Float → Bool
below_of kind phase p y t = lt (property_at (given_of kind) phase p t) y

-- mid = (lo + hi) / 2; if y(p,mid) < y asked, lo = mid, else hi = mid
unfoldable pub halved_of : ℕ → Phase → Float → Float → Float → Float → Bracket
halved_of kind phase p y lo hi = half_of lo hi (below_of kind phase p y (middle_of lo hi))

-- T = (lo + hi) / 2, with its state and mark
unfoldable pub settled_of : ℕ → Phase → Float → Float → Float → Float → Settled
settled_of kind phase p y lo hi = record { single = marked_of (given_of kind) (equation_of phase) p y (middle_of lo hi) }
