-- On which side of the saturation line T lies, and that the pull changes nothing else. An answer of one phase from (p,h) or (p,s) with p ≤ P is never past
-- the line, whatever its numbers, and has T ≤ Ts(p) in region 1 unless T is NaN, and T ≥ Ts(p) in region 2 unless T or Ts(p) is NaN; the pull makes no NaN
-- (`pulled_not_nan` of `pull`). State and mark are those of the T that the answer has. A candidate of (h,s) is pulled just where p ≤ P and it lies past the
-- line by at most 0.025 K; any other is the table's to judge, so that no answer of (h,s) with p ≤ P lies past the line by so little. Assumes nothing.
use mathlib.Core.Path.{◌≡◌, refl, ap}
use mathlib.Core.Bool.{Bool, true, false, false≢true, cond, ◌&&◌, and-false}
use lib.Ieee.{Float, lt, le, is_nan}
use Rattle.std.specs.Prelude.{Result, Ok, Err}
use Rattle.std.specs.Result.{result_or}
use Rattle.refusals.specs.declared.Refusal.{Refusal}
use Rattle.equations.specs.Equations.{is_of, equation_of}
use Rattle.equations.specs.declared.Equation.{Equation}
use Rattle.equations.specs.declared.Equation.TheVariants.{Region1, Region2}
use Rattle.equations.specs.declared.Phase.{Phase}
use Rattle.equations.specs.declared.Phase.TheVariants.{Liquid, Vapour}
use Rattle.saturation_line.specs.Printed.{ts_of}
use Rattle.states.specs.Marks.{both_near, marked_of, marked_both_of}
use Rattle.states.specs.Mixing.{wet_of}
use Rattle.states.specs.declared.Single.{Single}
use Rattle.workings.specs.Workings.{state_at}
use Rattle.workings.specs.declared.Given.{Given}
use Rattle.workings.specs.declared.Given.TheVariants.{Enthalpy}
use Rattle.places.specs.Places.{wild, p_triple, saturates, place_pt, place_py}
use Rattle.places.proofs.Known.{line_known}
use Rattle.places.specs.declared.Side.{Side}
use Rattle.pull.specs.Pull.{is_past, is_beside, past_by, pulled_to, reach, in_reach}
use Rattle.pull.proofs.Sides.{line_not_past, pulled_not_past, not_past_is_beside, not_past_kept, beside_is_not_past, not_past_out_of_reach, further_out_of_reach}
use Rattle.reply.specs.declared.Answer.{Answer}
use Rattle.sums.specs.Queries.{temperature_of, kept_beside, placed_py, answer_py, pressure_of, is_in, candidate_h, candidate_s, close_of, agreed_of, tried_of, candidate_of, state_hs, single_in, answer_hs}

-- ---- a state of one phase that (p,h) or (p,s) gives is that of its phase at the T kept beside the line

abbrev state_in : Result Answer Refusal → Single → Single
state_in (Ok (Answer.Single a)) other = a
state_in (Ok (Answer.Wet a)) other = other
state_in (Err refusal) other = other

abbrev is_single : Result Answer Refusal → Bool
is_single (Ok (Answer.Single a)) = true
is_single (Ok (Answer.Wet a)) = false
is_single (Err refusal) = false

by_phase : (given : Given) (p y : Float) (w : Result Side Refusal) (a : Single) (P : Single → Type 0)
    → ((phase : Phase) → w ≡ Ok (Side.Phase phase) → P (marked_of given (equation_of phase) p y (kept_beside phase p (temperature_of given phase p y))))
    → placed_py given p y w ≡ Ok (Answer.Single a) → P a
by_phase given p y (Ok (Side.Phase phase)) a P each e = rw (← ap (λ (r : Result Answer Refusal). state_in r a) e) (each phase refl)
by_phase given p y (Ok (Side.Wet t)) a P each e = absurd (false≢true (ap is_single e))
by_phase given p y (Err refusal) a P each e = absurd (false≢true (ap is_single e))

-- ---- its side

kept_not_past : (phase : Phase) (p t : Float) → saturates p ≡ true → is_past phase (ts_of p) (kept_beside phase p t) ≡ false
unfolding kept_beside
kept_not_past phase p t up_to_lem = rw up_to_lem (pulled_not_past phase (ts_of p) t)

-- of that phase or of the other
either : (phase other : Phase) (p t : Float) → saturates p ≡ true → equation_of other ≡ equation_of phase → is_past phase (ts_of p) (kept_beside other p t) ≡ false
either Liquid Liquid p t up_to_lem e = kept_not_past Liquid p t up_to_lem
either Liquid Vapour p t up_to_lem e = absurd (false≢true (ap (λ (q : Equation). is_of q Liquid) e))
either Vapour Liquid p t up_to_lem e = absurd (false≢true (ap (λ (q : Equation). is_of q Vapour) e))
either Vapour Vapour p t up_to_lem e = kept_not_past Vapour p t up_to_lem

pub not_past : (given : Given) (p y : Float) (a : Single) (phase : Phase) → saturates p ≡ true → answer_py given p y ≡ Ok (Answer.Single a)
    → a.equation ≡ equation_of phase → is_past phase (ts_of p) a.t ≡ false
unfolding answer_py marked_of
not_past given p y a phase up_to_lem =
    by_phase given p y (place_py given p y) a (λ a. a.equation ≡ equation_of phase → is_past phase (ts_of p) a.t ≡ false)
    (λ other place. either phase other p (temperature_of given other p y) up_to_lem)

pub on_its_side : (given : Given) (p y : Float) (a : Single) (phase : Phase) → saturates p ≡ true → answer_py given p y ≡ Ok (Answer.Single a)
    → a.equation ≡ equation_of phase → is_nan (ts_of p) ≡ false → is_nan a.t ≡ false → is_beside phase (ts_of p) a.t ≡ true
on_its_side given p y a phase up_to_lem e q line value =
    not_past_is_beside phase (ts_of p) a.t line value (not_past given p y a phase up_to_lem e q)

-- the same of each region: in region 1 Ts(p) is no NaN
liquid_line : (given : Given) (p y : Float) (phase : Phase) → saturates p ≡ true → place_py given p y ≡ Ok (Side.Phase phase) → equation_of phase ≡ Region1 → is_nan (ts_of p) ≡ false
liquid_line given p y Liquid up_to_lem place q = line_known given p y up_to_lem place
liquid_line given p y Vapour up_to_lem place q = absurd (false≢true (ap (λ (e : Equation). is_of e Liquid) q))

line_there : (given : Given) (p y : Float) (a : Single) → saturates p ≡ true → answer_py given p y ≡ Ok (Answer.Single a) → a.equation ≡ Region1 → is_nan (ts_of p) ≡ false
unfolding answer_py marked_of
line_there given p y a up_to_lem =
    by_phase given p y (place_py given p y) a (λ a. a.equation ≡ Region1 → is_nan (ts_of p) ≡ false) (λ phase. liquid_line given p y phase up_to_lem)

pub liquid_at_most : (given : Given) (p y : Float) (a : Single) → saturates p ≡ true → answer_py given p y ≡ Ok (Answer.Single a) → a.equation ≡ Region1
    → is_nan a.t ≡ false → le a.t (ts_of p) ≡ true
liquid_at_most given p y a up_to_lem e q value = on_its_side given p y a Liquid up_to_lem e q (line_there given p y a up_to_lem e q) value

pub vapour_at_least : (given : Given) (p y : Float) (a : Single) → saturates p ≡ true → answer_py given p y ≡ Ok (Answer.Single a) → a.equation ≡ Region2
    → is_nan (ts_of p) ≡ false → is_nan a.t ≡ false → le (ts_of p) a.t ≡ true
vapour_at_least given p y a = on_its_side given p y a Vapour

-- ---- its state and mark: those of the T that the answer has

pub marked_there : (given : Given) (p y : Float) (a : Single) → answer_py given p y ≡ Ok (Answer.Single a) → a ≡ marked_of given a.equation p y a.t
unfolding answer_py marked_of
marked_there given p y a = by_phase given p y (place_py given p y) a (λ a. a ≡ marked_of given a.equation p y a.t) (λ phase place. refl)

-- ---- where nothing is pulled

-- the answer with the T of the backward equation as it is
abbrev pub as_backward : Given → Float → Float → Result Side Refusal → Result Answer Refusal
as_backward given p y (Ok (Side.Phase phase)) = Ok (Answer.Single (marked_of given (equation_of phase) p y (temperature_of given phase p y)))
as_backward given p y (Ok (Side.Wet t)) = Ok (Answer.Wet (wet_of given p y t))
as_backward given p y (Err refusal) = Err refusal

-- whether that T lies past the line
abbrev pub strays : Given → Float → Float → Result Side Refusal → Bool
strays given p y (Ok (Side.Phase phase)) = is_past phase (ts_of p) (temperature_of given phase p y)
strays given p y (Ok (Side.Wet t)) = false
strays given p y (Err refusal) = false

kept_where : (phase : Phase) (p t : Float) → saturates p && is_past phase (ts_of p) t ≡ false → kept_beside phase p t ≡ t
unfolding kept_beside
kept_where phase p t = go (saturates p)
  where
    go : (b : Bool) → b && is_past phase (ts_of p) t ≡ false → cond b (pulled_to phase (ts_of p) t) t ≡ t
    go true beside = not_past_kept phase (ts_of p) t beside
    go false above = refl

placed_unpulled : (given : Given) (p y : Float) (w : Result Side Refusal) → saturates p && strays given p y w ≡ false → placed_py given p y w ≡ as_backward given p y w
placed_unpulled given p y (Ok (Side.Phase phase)) k = rw (kept_where phase p (temperature_of given phase p y) k)
placed_unpulled given p y (Ok (Side.Wet t)) k = refl
placed_unpulled given p y (Err refusal) k = refl

pub unpulled : (given : Given) (p y : Float) → saturates p && strays given p y (place_py given p y) ≡ false → answer_py given p y ≡ as_backward given p y (place_py given p y)
unfolding answer_py
unpulled given p y = placed_unpulled given p y (place_py given p y)

-- a T on its side stays
pub kept_on_its_side : (given : Given) (p y : Float) (phase : Phase) → place_py given p y ≡ Ok (Side.Phase phase) → is_beside phase (ts_of p) (temperature_of given phase p y) ≡ true
    → answer_py given p y ≡ Ok (Answer.Single (marked_of given (equation_of phase) p y (temperature_of given phase p y)))
unfolding answer_py
kept_on_its_side given p y phase place beside =
    let t = temperature_of given phase p y in
    let kept = kept_where phase p t (rw (beside_is_not_past phase (ts_of p) t beside) (and-false (saturates p))) in
    rw (place, kept)

-- ---- where T is pulled, it is Ts(p)

abbrev pub at_line : Given → Float → Float → Result Side Refusal → Result Answer Refusal
at_line given p y (Ok (Side.Phase phase)) = Ok (Answer.Single (marked_of given (equation_of phase) p y (ts_of p)))
at_line given p y (Ok (Side.Wet t)) = Ok (Answer.Wet (wet_of given p y t))
at_line given p y (Err refusal) = Err refusal

pulled_where : (phase : Phase) (p t : Float) → saturates p ≡ true → is_past phase (ts_of p) t ≡ true → kept_beside phase p t ≡ ts_of p
unfolding kept_beside pulled_to
pulled_where phase p t up_to_lem past = rw (up_to_lem, past) refl

placed_pulled : (given : Given) (p y : Float) (w : Result Side Refusal) → saturates p ≡ true → strays given p y w ≡ true → placed_py given p y w ≡ at_line given p y w
placed_pulled given p y (Ok (Side.Phase phase)) up_to_lem past = rw (pulled_where phase p (temperature_of given phase p y) up_to_lem past)
placed_pulled given p y (Ok (Side.Wet t)) up_to_lem past = refl
placed_pulled given p y (Err refusal) up_to_lem past = refl

pub pulled : (given : Given) (p y : Float) → saturates p ≡ true → strays given p y (place_py given p y) ≡ true → answer_py given p y ≡ at_line given p y (place_py given p y)
unfolding answer_py
pulled given p y = placed_pulled given p y (place_py given p y)

-- ---- (h,s): a candidate that is above P, not past the line, or further past it than 0.025 K is judged with the table, at its own T

tried_where : (phase : Phase) (p t h s : Float) → saturates p && in_reach phase (ts_of p) t ≡ false → tried_of phase p t h s ≡ agreed_of phase p t h s
unfolding tried_of
tried_where phase p t h s k = rw k refl

pub tried_above : (phase : Phase) (p t h s : Float) → saturates p ≡ false → tried_of phase p t h s ≡ agreed_of phase p t h s
tried_above phase p t h s above = tried_where phase p t h s (rw above)

pub tried_not_past : (phase : Phase) (p t h s : Float) → is_past phase (ts_of p) t ≡ false → tried_of phase p t h s ≡ agreed_of phase p t h s
tried_not_past phase p t h s beside = tried_where phase p t h s (rw (not_past_out_of_reach phase (ts_of p) t beside) (and-false (saturates p)))

pub tried_further : (phase : Phase) (p t h s : Float) → lt reach (past_by phase (ts_of p) t) ≡ true → tried_of phase p t h s ≡ agreed_of phase p t h s
tried_further phase p t h s further = tried_where phase p t h s (rw (further_out_of_reach phase (ts_of p) t further) (and-false (saturates p)))

-- any other is judged by h and s alone, at Ts(p)
pub tried_pulled : (phase : Phase) (p t h s : Float) → saturates p ≡ true → is_past phase (ts_of p) t ≡ true → le (past_by phase (ts_of p) t) reach ≡ true
    → tried_of phase p t h s ≡ close_of phase p (ts_of p) h s
unfolding tried_of in_reach
tried_pulled phase p t h s up_to_lem past within = rw (up_to_lem, past, within) refl

-- from 0.000611213 MPa on a candidate is tried so, below that it is refused
pub candidate_tried : (phase : Phase) (h s : Float) → let p = pressure_of phase h s in le p_triple p ≡ true
    → candidate_of phase h s ≡ tried_of phase p (temperature_of Enthalpy phase p h) h s
unfolding candidate_of
candidate_tried phase h s enough = rw enough refl

pub candidate_below : (phase : Phase) (h s : Float) → le p_triple (pressure_of phase h s) ≡ false → candidate_of phase h s ≡ Err Refusal.NoRegion
unfolding candidate_of
candidate_below phase h s below = rw below refl

-- ---- no answer of (h,s) lies past the line by 0.025 K or less

-- whether a state at p and T by an equation is one of a phase in the line's reach
abbrev at_reach : Phase → Equation → Float → Float → Bool
at_reach phase equation p t = is_of equation phase && (saturates p && in_reach phase (ts_of p) t)

abbrev pub is_reached : Phase → Result Answer Refusal → Bool
is_reached phase (Ok (Answer.Single a)) = at_reach phase a.equation a.p a.t
is_reached phase (Ok (Answer.Wet a)) = false
is_reached phase (Err refusal) = false

-- the same of a state that is no answer yet
abbrev reaches : Phase → Result Single Refusal → Bool
reaches phase (Ok a) = at_reach phase a.equation a.p a.t
reaches phase (Err refusal) = false

whichever : (phase : Phase) (b : Bool) (x y : Result Single Refusal) → reaches phase x ≡ false → reaches phase y ≡ false → reaches phase (cond b x y) ≡ false
whichever phase true x y h k = h
whichever phase false x y h k = k

close_clear : (phase other : Phase) (p t h s : Float) → at_reach phase (equation_of other) p t ≡ false → reaches phase (close_of other p t h s) ≡ false
unfolding close_of
close_clear phase other p t h s clear =
    whichever phase (both_near candidate_h candidate_s (state_at (equation_of other) p t) h s) (Ok (marked_both_of (equation_of other) p t h s)) (Err Refusal.NoRegion) clear refl

-- Ts(p) itself is out of reach
line_clear : (phase other : Phase) (p : Float) → at_reach phase (equation_of other) p (ts_of p) ≡ false
line_clear phase other p =
    rw (not_past_out_of_reach phase (ts_of p) (ts_of p) (line_not_past phase (ts_of p)), and-false (saturates p)) (and-false (is_of (equation_of other) phase))

-- what is out of its own phase's reach is in no other's
own_clear : (phase other : Phase) (p t : Float) → saturates p && in_reach other (ts_of p) t ≡ false → at_reach phase (equation_of other) p t ≡ false
own_clear Liquid Liquid p t k = k
own_clear Liquid Vapour p t k = refl
own_clear Vapour Liquid p t k = refl
own_clear Vapour Vapour p t k = k

tried_clear : (phase other : Phase) (p t h s : Float) → reaches phase (tried_of other p t h s) ≡ false
unfolding tried_of agreed_of
tried_clear phase other p t h s = go (saturates p && in_reach other (ts_of p) t) refl
  where
    go : (b : Bool) → saturates p && in_reach other (ts_of p) t ≡ b → reaches phase (cond b (close_of other p (ts_of p) h s) (agreed_of other p t h s)) ≡ false
    go true k = close_clear phase other p (ts_of p) h s (line_clear phase other p)
    go false k = whichever phase (is_in other (place_pt p t)) (close_of other p t h s) (Err Refusal.NoRegion) (close_clear phase other p t h s (own_clear phase other p t k)) refl

candidate_clear : (phase other : Phase) (h s : Float) → reaches phase (candidate_of other h s) ≡ false
unfolding candidate_of
candidate_clear phase other h s =
    let p = pressure_of other h s in
    let t = temperature_of Enthalpy other p h in
    whichever phase (le p_triple p) (tried_of other p t h s) (Err Refusal.NoRegion) (tried_clear phase other p t h s) refl

first_clear : (phase : Phase) (x y : Result Single Refusal) → reaches phase x ≡ false → reaches phase y ≡ false → reaches phase (result_or x y) ≡ false
first_clear phase (Ok a) y h k = h
first_clear phase (Err refusal) y h k = k

state_clear : (phase : Phase) (h s : Float) → reaches phase (state_hs h s) ≡ false
unfolding state_hs
state_clear phase h s =
    let liquid = candidate_of Liquid h s in
    let vapour = candidate_of Vapour h s in
    let first = first_clear phase liquid vapour (candidate_clear phase Liquid h s) (candidate_clear phase Vapour h s) in
    whichever phase (wild h s) (Err Refusal.NotFinite) (result_or liquid vapour) refl first

answered : (phase : Phase) (a : Result Single Refusal) → is_reached phase (single_in a) ≡ reaches phase a
answered phase (Ok a) = refl
answered phase (Err refusal) = refl

pub hs_out_of_reach : (phase : Phase) (h s : Float) → is_reached phase (answer_hs h s) ≡ false
unfolding answer_hs
hs_out_of_reach phase h s = rw (answered phase (state_hs h s)) (state_clear phase h s)
