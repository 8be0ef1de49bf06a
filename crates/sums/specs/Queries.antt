-- The four kinds of query, and the query whose kind is a number. Definitions only.
use Rattle.std.specs.Prelude.{◌≡◌, ℕ, Bool, false, cond, ◌&&◌, eqb, leb, Float, Result, Ok, Err, MatchResult}
use Rattle.std.specs.Result.{result_or}
use Rattle.std.specs.Float.Ieee.{le}
use Rattle.arith.specs.Printed.{less, printed}
use Rattle.backward.specs.T1ph.{t1ph}
use Rattle.backward.specs.T1ps.{t1ps}
use Rattle.backward.specs.P1hs.{p1hs}
use Rattle.backward.specs.Region2.{t2ph, t2ps, p2hs}
use Rattle.saturation_line.specs.Printed.{ts_of}
use Rattle.equations.specs.Equations.{is_of, equation_of}
use Rattle.workings.specs.Workings.{state_at, given_of}
use Rattle.states.specs.Marks.{both_near, met_at, single_of, marked_of, marked_both_of}
use Rattle.states.specs.Mixing.{wet_of}
use Rattle.states.specs.declared.Single.{Single}
use Rattle.refusals.specs.declared.Refusal.{Refusal}
use Rattle.workings.specs.declared.Given.{Given}
use Rattle.workings.specs.declared.Given.TheVariants.{Enthalpy, Entropy}
use Rattle.pull.specs.Pull.{pulled_to, in_reach}
use Rattle.places.specs.Places.{wild, p_triple, saturates, place_pt, place_py}
use Rattle.places.specs.declared.Side.{Side}
use Rattle.equations.specs.declared.Equation.{Equation}
use Rattle.equations.specs.declared.Phase.{Phase}
use Rattle.equations.specs.declared.Phase.TheVariants.{Liquid, Vapour}
use Rattle.reply.specs.declared.Answer.{Answer}
use Rattle.sums.specs.declared.kinds.Kind.{Kind}

-- ---- (p,T): verified where the equation comes back to p, which only region 3 may miss

abbrev pub placed_pt : Float → Float → Result Equation Refusal → Result Answer Refusal
placed_pt p t (Ok equation) = Ok (Answer.Single (single_of equation p t (met_at equation p t)))
placed_pt p t (Err refusal) = Err refusal

unfoldable pub answer_pt : Float → Float → Result Answer Refusal
answer_pt p t = placed_pt p t (place_pt p t)

-- ---- (p,h) and (p,s): in regions 1 and 2 T is the backward equation's, kept on its side of the saturation line, with no second look at the (p,T) table

unfoldable pub temperature_of : Given → Phase → Float → Float → Float
temperature_of given Liquid p y = given_of given (t1ph p y) (t1ps p y)
temperature_of given Vapour p y = given_of given (t2ph p y) (t2ps p y)

-- Up to P a T past Ts(p), in region 1 above it and in region 2 below it, becomes Ts(p).
unfoldable pub kept_beside : Phase → Float → Float → Float
kept_beside phase p t = cond (saturates p) (pulled_to phase (ts_of p) t) t

abbrev pub placed_py : Given → Float → Float → Result Side Refusal → Result Answer Refusal
placed_py given p y (Ok (Side.Phase phase)) = Ok (Answer.Single (marked_of given (equation_of phase) p y (kept_beside phase p (temperature_of given phase p y))))
placed_py given p y (Ok (Side.Wet t)) = Ok (Answer.Wet (wet_of given p y t))
placed_py given p y (Err refusal) = Err refusal

unfoldable pub answer_py : Given → Float → Float → Result Answer Refusal
answer_py given p y = placed_py given p y (place_py given p y)

-- ---- (h,s): the first of two candidates, region 1 before region 2, that passes

-- p by p(h,s)
unfoldable pub pressure_of : Phase → Float → Float → Float
pressure_of Liquid h s = p1hs h s
pressure_of Vapour h s = p2hs h s

-- the (p,T) table gives that phase's region without refusal
abbrev pub is_in : Phase → Result Equation Refusal → Bool
is_in phase (Ok equation) = is_of equation phase
is_in phase (Err refusal) = false

-- how far forward h and s of a candidate may lie from those asked
abbrev pub candidate_h : Float
candidate_h = printed false 2 (less 1)

abbrev pub candidate_s : Float
candidate_s = printed false 5 (less 4)

-- the state at p and T, marked by both h and s; refused by 7 where forward h and s are not within 0.2 and 0.0005 of those asked
unfoldable pub close_of : Phase → Float → Float → Float → Float → Result Single Refusal
close_of phase p t h s =
    cond (both_near candidate_h candidate_s (state_at (equation_of phase) p t) h s) (Ok (marked_both_of (equation_of phase) p t h s)) (Err Refusal.NoRegion)

-- the same where the table agrees too
unfoldable pub agreed_of : Phase → Float → Float → Float → Float → Result Single Refusal
agreed_of phase p t h s = cond (is_in phase (place_pt p t)) (close_of phase p t h s) (Err Refusal.NoRegion)

-- Up to P a T past Ts(p) by at most 0.025 K is pulled to it, and the table counts as agreeing.
unfoldable pub tried_of : Phase → Float → Float → Float → Float → Result Single Refusal
tried_of phase p t h s = cond (saturates p && in_reach phase (ts_of p) t) (close_of phase p (ts_of p) h s) (agreed_of phase p t h s)

-- the candidate of a phase: p is not below 0.000611213, and T is that of T(p,h), whose subregion of 2 is chosen anew by p and h
unfoldable pub candidate_of : Phase → Float → Float → Result Single Refusal
candidate_of phase h s =
    let p = pressure_of phase h s in
    let t = temperature_of Enthalpy phase p h in
    cond (le p_triple p) (tried_of phase p t h s) (Err Refusal.NoRegion)

-- the first, unless it is refused
unfoldable pub state_hs : Float → Float → Result Single Refusal
state_hs h s = cond (wild h s) (Err Refusal.NotFinite) (result_or (candidate_of Liquid h s) (candidate_of Vapour h s))

-- it is of one phase
abbrev pub single_in : Result Single Refusal → Result Answer Refusal
single_in (Ok a) = Ok (Answer.Single a)
single_in (Err refusal) = Err refusal

unfoldable pub answer_hs : Float → Float → Result Answer Refusal
answer_hs h s = single_in (state_hs h s)

-- ---- by number: kinds 1 to 4 are (p,T), (p,h), (p,s), (h,s)

unfoldable pub answer_of : ℕ → Float → Float → Result Answer Refusal
answer_of kind x y =
    cond (eqb kind 1) (answer_pt x y)
    (cond (eqb kind 2) (answer_py Enthalpy x y)
    (cond (eqb kind 3) (answer_py Entropy x y)
    (cond (eqb kind 4) (answer_hs x y)
    (Err Refusal.UnknownNumber))))

-- the same numbers of the code's own kinds
abbrev pub number_of : Kind → ℕ
number_of Kind.Pt = 1
number_of (Kind.Py Enthalpy) = 2
number_of (Kind.Py Entropy) = 3
number_of Kind.Hs = 4

-- the kind that a number names; any other number is refused by 9
abbrev pub Names : ℕ → Result Kind Refusal → Type 0
Names n r = MatchResult r (λ kind. number_of kind ≡ n) (λ refusal. (refusal ≡ Refusal.UnknownNumber) × (leb 1 n && leb n 4 ≡ false))
