-- A state of one phase that a query gives is that of its equation at its p and T, with a mark. Assumes nothing.
use mathlib.Core.Bool.{Bool, true, false, cond, ◌&&◌}
use Prim.Native.Nat.{ℕ}
use lib.Dec.{eqb}
use lib.Ieee.{Float, le}
use Rattle.std.specs.Prelude.{Result, Ok, Err}
use Rattle.std.specs.Result.{result_or}
use Rattle.refusals.specs.declared.Refusal.{Refusal}
use Rattle.workings.specs.declared.Given.{Given}
use Rattle.workings.specs.declared.Given.TheVariants.{Enthalpy, Entropy}
use Rattle.equations.specs.declared.Equation.{Equation}
use Rattle.equations.specs.declared.Phase.{Phase}
use Rattle.equations.specs.declared.Phase.TheVariants.{Liquid, Vapour}
use Rattle.states.specs.declared.Single.{Single}
use Rattle.states.specs.declared.Wet.{Wet}
use Rattle.states.specs.Marks.{both_near, single_of, marked_of}
use Rattle.equations.specs.Equations.{equation_of}
use Rattle.workings.specs.Workings.{state_at}
use Rattle.saturation_line.specs.Printed.{ts_of}
use Rattle.pull.specs.Pull.{in_reach}
use Rattle.places.specs.declared.Side.{Side}
use Rattle.places.specs.Places.{wild, p_triple, saturates, place_pt, place_py}
use Rattle.reply.specs.declared.Answer.{Answer}
use Rattle.sums.specs.Queries.{placed_pt, answer_pt, placed_py, answer_py, pressure_of, is_in, candidate_h, candidate_s, close_of, agreed_of, tried_of, candidate_of, state_hs, single_in, answer_hs, answer_of}

pub data Forward : Result Answer Refusal → Type 0 where
  single : {equation : Equation} {p t : Float} {verified : Bool} → Forward (Ok (Answer.Single (single_of equation p t verified)))
  wet : {a : Wet} → Forward (Ok (Answer.Wet a))
  refused : {refusal : Refusal} → Forward (Err refusal)

-- the same of a state that is no answer yet
pub data ForwardState : Result Single Refusal → Type 0 where
  state : {equation : Equation} {p t : Float} {verified : Bool} → ForwardState (Ok (single_of equation p t verified))
  none : {refusal : Refusal} → ForwardState (Err refusal)

either : (b : Bool) {x y : Result Answer Refusal} → Forward x → Forward y → Forward (cond b x y)
either true h k = h
either false h k = k

either_state : (b : Bool) {x y : Result Single Refusal} → ForwardState x → ForwardState y → ForwardState (cond b x y)
either_state true h k = h
either_state false h k = k

placed_pt_lem : (p t : Float) (w : Result Equation Refusal) → Forward (placed_pt p t w)
placed_pt_lem p t (Ok equation) = single
placed_pt_lem p t (Err refusal) = refused

pub forward_pt : (p t : Float) → Forward (answer_pt p t)
unfolding answer_pt
forward_pt p t = placed_pt_lem p t (place_pt p t)

placed_py_lem : (given : Given) (p y : Float) (w : Result Side Refusal) → Forward (placed_py given p y w)
unfolding marked_of
placed_py_lem given p y (Ok (Side.Phase phase)) = single
placed_py_lem given p y (Ok (Side.Wet t)) = wet
placed_py_lem given p y (Err refusal) = refused

pub forward_py : (given : Given) (p y : Float) → Forward (answer_py given p y)
unfolding answer_py
forward_py given p y = placed_py_lem given p y (place_py given p y)

close : (phase : Phase) (p t h s : Float) → ForwardState (close_of phase p t h s)
unfolding close_of
close phase p t h s = either_state (both_near candidate_h candidate_s (state_at (equation_of phase) p t) h s) state none

agreed : (phase : Phase) (p t h s : Float) → ForwardState (agreed_of phase p t h s)
unfolding agreed_of
agreed phase p t h s = either_state (is_in phase (place_pt p t)) (close phase p t h s) none

tried : (phase : Phase) (p t h s : Float) → ForwardState (tried_of phase p t h s)
unfolding tried_of
tried phase p t h s = either_state (saturates p && in_reach phase (ts_of p) t) (close phase p (ts_of p) h s) (agreed phase p t h s)

candidate : (phase : Phase) (h s : Float) → ForwardState (candidate_of phase h s)
unfolding candidate_of
candidate phase h s = either_state (le p_triple (pressure_of phase h s)) (tried phase _ _ h s) none

first : {a b : Result Single Refusal} → ForwardState a → ForwardState b → ForwardState (result_or a b)
first state k = state
first none k = k

pub forward_state : (h s : Float) → ForwardState (state_hs h s)
unfolding state_hs
forward_state h s = either_state (wild h s) none (first (candidate Liquid h s) (candidate Vapour h s))

answered : {a : Result Single Refusal} → ForwardState a → Forward (single_in a)
answered state = single
answered none = refused

pub forward_hs : (h s : Float) → Forward (answer_hs h s)
unfolding answer_hs
forward_hs h s = answered (forward_state h s)

pub forward : (kind : ℕ) (x y : Float) → Forward (answer_of kind x y)
unfolding answer_of
forward kind x y =
    either (eqb kind 1) (forward_pt x y)
    (either (eqb kind 2) (forward_py Enthalpy x y)
    (either (eqb kind 3) (forward_py Entropy x y)
    (either (eqb kind 4) (forward_hs x y)
    refused)))
