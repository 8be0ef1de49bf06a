-- What the code carries inside a query: where a state of one phase lies, so that of a state and a derivative only what is asked for is worked there; and from
-- (h,s), which works a state to judge it, that state, with w squared yet and beside it the slopes that a derivative of it takes, so that nothing is summed twice.
-- No promise of a public call cites this file. Definitions only.
use Rattle.std.specs.Prelude.{ℕ, cond, ◌&&◌, Float, Result, Ok, Err}
use Rattle.equations.specs.declared.Phase.{Phase}
use Rattle.refusals.specs.declared.Refusal.{Refusal}
use Rattle.saturation_line.specs.Printed.{ts_of}
use Rattle.pull.specs.Pull.{in_reach}
use Rattle.places.specs.Places.{saturates, place_pt}
use Rattle.sums.specs.Queries.{is_in}
use Rattle.workings.specs.Workings.{slopes_at}
use Rattle.states.specs.Marks.{marked_of, full_of, handed_out}
use Rattle.states.specs.declared.Full.{Full}
use Rattle.states.specs.declared.Single.{Single}
use Rattle.workings.specs.declared.Given.{Given}
use Rattle.slopes.specs.Slopes.{ratio_at}
use Rattle.reply.specs.declared.Answer.{Answer}
use Rattle.sums.specs.declared.outcomes.Found.{Found}

-- ---- where a state lies

abbrev pub found_of : Result Answer Refusal → Result Found Refusal
found_of (Ok (Answer.Single a)) = Ok (Found.Single (record { equation = a.equation; p = a.p; t = a.t }))
found_of (Ok (Answer.Wet a)) = Ok (Found.Wet a)
found_of (Err refusal) = Err refusal

-- the derivative there
abbrev pub quotient_found : Result Found Refusal → ℕ → ℕ → ℕ → Result Float Refusal
quotient_found (Ok (Found.Single a)) z x y = ratio_at (slopes_at a.equation a.p a.t) z x y
quotient_found (Ok (Found.Wet a)) z x y = Err Refusal.WetOrSingular
quotient_found (Err refusal) z x y = Err refusal

-- the state there, marked by the h or s asked
abbrev pub marked_in : Given → Float → Result Found Refusal → Result Answer Refusal
marked_in given y (Ok (Found.Single a)) = Ok (Answer.Single (marked_of given a.equation a.p y a.t))
marked_in given y (Ok (Found.Wet a)) = Ok (Answer.Wet a)
marked_in given y (Err refusal) = Err refusal

-- ---- the T at which a candidate of (h,s) is judged, unless the (p,T) table refuses it: at Ts(p) it counts as agreeing

abbrev pub own_trial : Phase → Float → Float → Result Float Refusal
own_trial phase p t = cond (is_in phase (place_pt p t)) (Ok t) (Err Refusal.NoRegion)

unfoldable pub trial_of : Phase → Float → Float → Result Float Refusal
trial_of phase p t = cond (saturates p && in_reach phase (ts_of p) t) (Ok (ts_of p)) (own_trial phase p t)

-- ---- a state as it was worked

abbrev pub full_in : Result Single Refusal → Result Full Refusal
full_in (Ok a) = Ok (full_of a)
full_in (Err refusal) = Err refusal

-- the derivative at it
abbrev pub quotient_carried : Result Full Refusal → ℕ → ℕ → ℕ → Result Float Refusal
quotient_carried (Ok a) z x y = ratio_at a.worked.slopes z x y
quotient_carried (Err refusal) z x y = Err refusal

-- the answer alone
abbrev pub shown_of : Result Full Refusal → Result Answer Refusal
shown_of (Ok a) = Ok (Answer.Single (handed_out a))
shown_of (Err refusal) = Err refusal
