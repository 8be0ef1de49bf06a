-- What holds of answers holds of what the code carries in their place: nothing of an answer that a query gives is lost, the first that is not
-- refused is the same, and so is the quotient at a state; how p and y stand to the saturation line gives the state that their place gives; a candidate is
-- tried as its trial says; and a number stands for the kind that it names. Assumes nothing.
use mathlib.Core.Path.{◌≡◌, refl, sym, ◌∙◌}
use mathlib.Core.Bool.{Bool, true, false, true≢false, cond, ◌&&◌}
use Prim.Native.Nat.{ℕ}
use lib.Dec.{eqb, leb}
use lib.Ieee.{Float}
use borrow.Author.Tests.{ne_eqb}
use Rattle.std.specs.Prelude.{Result, Ok, Err}
use Rattle.std.specs.Result.{result_or}
use Rattle.refusals.specs.declared.Refusal.{Refusal}
use Rattle.workings.specs.declared.Given.{Given}
use Rattle.workings.specs.declared.Given.TheVariants.{Enthalpy, Entropy}
use Rattle.states.specs.Marks.{marked_of}
use Rattle.workings.specs.Workings.{state_at, worked_at}
use Rattle.places.specs.declared.Side.{Side}
use Rattle.places.specs.Places.{saturates, place_pt, place_py}
use Rattle.places.specs.Standing.{beside_line, beyond_line, standing_of, standing_py}
use Rattle.places.specs.declared.Standing.{Standing}
use Rattle.pull.specs.Pull.{pulled_to, in_reach}
use Rattle.saturation_line.specs.Printed.{ts_of}
use Rattle.equations.specs.Equations.{equation_of}
use Rattle.equations.specs.declared.Phase.{Phase}
use Rattle.states.specs.Mixing.{wet_of}
use Rattle.states.specs.declared.Single.{Single}
use Rattle.sums.proofs.Forward.{ForwardState}
use Rattle.sums.proofs.Forward.ForwardState.{state, none}
use Rattle.sums.specs.Queries.{is_in, temperature_of, kept_beside, answer_pt, placed_py, answer_py, close_of, agreed_of, tried_of, single_in, answer_hs, answer_of, number_of}
use Rattle.sums.specs.Quotients.{quotient_at}
use Rattle.sums.specs.Outcomes.{full_in, quotient_carried, shown_of, found_of, quotient_found, marked_in, trial_of}
use Rattle.reply.specs.declared.Answer.{Answer}
use Rattle.sums.specs.declared.kinds.Kind.{Kind}
use Rattle.sums.specs.declared.outcomes.Found.{Found}

-- what is shown of a state that was worked is the answer
pub shown_same : {a : Result Single Refusal} → ForwardState a → shown_of (full_in a) ≡ single_in a
unfolding state_at worked_at
shown_same state = refl
shown_same none = refl

-- ---- the first of two

pub first_same : (a b : Result Single Refusal) → full_in (result_or a b) ≡ result_or (full_in a) (full_in b)
first_same (Ok a) b = refl
first_same (Err refusal) b = refl

-- ---- the quotient

pub quotient_same : (a : Result Single Refusal) (z x y : ℕ) → quotient_at (single_in a) z x y ≡ quotient_carried (full_in a) z x y
unfolding worked_at
quotient_same (Ok a) z x y = refl
quotient_same (Err refusal) z x y = refl

pub quotient_there : (a : Result Answer Refusal) (z x y : ℕ) → quotient_at a z x y ≡ quotient_found (found_of a) z x y
quotient_there (Ok (Answer.Single a)) z x y = refl
quotient_there (Ok (Answer.Wet a)) z x y = refl
quotient_there (Err refusal) z x y = refl

-- ---- the answer where a state was found

placed_py_lem : (given : Given) (p y : Float) (w : Result Side Refusal) → marked_in given y (found_of (placed_py given p y w)) ≡ placed_py given p y w
unfolding marked_of
placed_py_lem given p y (Ok (Side.Phase phase)) = refl
placed_py_lem given p y (Ok (Side.Wet t)) = refl
placed_py_lem given p y (Err refusal) = refl

pub py_same : (given : Given) (p y : Float) → marked_in given y (found_of (answer_py given p y)) ≡ answer_py given p y
unfolding answer_py
py_same given p y = placed_py_lem given p y (place_py given p y)

-- ---- where a state is found, by how p and y stand to the saturation line

abbrev pub found_standing : Given → Float → Float → Result Standing Refusal → Result Found Refusal
found_standing given p y (Ok (Standing.Beside phase ts)) =
    Ok (Found.Single (record { equation = equation_of phase; p = p; t = pulled_to phase ts (temperature_of given phase p y) }))
found_standing given p y (Ok (Standing.Wet t)) = Ok (Found.Wet (wet_of given p y t))
found_standing given p y (Ok (Standing.Beyond phase)) = Ok (Found.Single (record { equation = equation_of phase; p = p; t = temperature_of given phase p y }))
found_standing given p y (Err refusal) = Err refusal

-- `saturates p` is that of the standing and of the T kept beside the line
stood : (given : Given) (p y : Float) (b : Bool) (w : Side) → saturates p ≡ b
    → found_of (placed_py given p y (Ok w)) ≡ found_standing given p y (Ok (cond b (beside_line (ts_of p) w) (beyond_line w)))
unfolding marked_of kept_beside
stood given p y true (Side.Phase phase) e = rw e refl
stood given p y true (Side.Wet t) e = refl
stood given p y false (Side.Phase phase) e = rw e refl
stood given p y false (Side.Wet t) e = refl

placed : (given : Given) (p y : Float) (w : Result Side Refusal) → found_of (placed_py given p y w) ≡ found_standing given p y (standing_of p w)
unfolding standing_of
placed given p y (Ok side) = stood given p y (saturates p) side refl
placed given p y (Err refusal) = refl

pub found_standing_lem : (given : Given) (p y : Float) → found_of (answer_py given p y) ≡ found_standing given p y (standing_py given p y)
unfolding answer_py standing_py
found_standing_lem given p y = placed given p y (place_py given p y)

-- ---- a candidate is tried as its trial says

abbrev pub closed_at : Phase → Float → Float → Float → Result Float Refusal → Result Single Refusal
closed_at phase p h s (Ok t) = close_of phase p t h s
closed_at phase p h s (Err refusal) = Err refusal

either_trial : (phase : Phase) (p t ts h s : Float) (past agrees : Bool)
    → cond past (close_of phase p ts h s) (cond agrees (close_of phase p t h s) (Err Refusal.NoRegion))
    ≡ closed_at phase p h s (cond past (Ok ts) (cond agrees (Ok t) (Err Refusal.NoRegion)))
either_trial phase p t ts h s true agrees = refl
either_trial phase p t ts h s false true = refl
either_trial phase p t ts h s false false = refl

pub tried_by : (phase : Phase) (p t h s : Float) → tried_of phase p t h s ≡ closed_at phase p h s (trial_of phase p t)
unfolding tried_of agreed_of trial_of
tried_by phase p t h s = either_trial phase p t (ts_of p) h s (saturates p && in_reach phase (ts_of p) t) (is_in phase (place_pt p t))

-- ---- the kinds by number

abbrev pub answer_by : Kind → Float → Float → Result Answer Refusal
answer_by Kind.Pt x y = answer_pt x y
answer_by (Kind.Py given) x y = answer_py given x y
answer_by Kind.Hs x y = answer_hs x y

pub by_kind : (n : ℕ) (kind : Kind) (x y : Float) → number_of kind ≡ n → answer_of n x y ≡ answer_by kind x y
unfolding answer_of
by_kind n Kind.Pt x y named = rw (← named) refl
by_kind n (Kind.Py Enthalpy) x y named = rw (← named) refl
by_kind n (Kind.Py Entropy) x y named = rw (← named) refl
by_kind n Kind.Hs x y named = rw (← named) refl

differs : (n k : ℕ) → (leb 1 k && leb k 4) ≡ true → (leb 1 n && leb n 4) ≡ false → eqb n k ≡ false
differs n k known unknown = ne_eqb n k (λ (same : n ≡ k). true≢false (sym known ∙ (rw same at unknown)))

pub no_kind : (n : ℕ) (x y : Float) → (leb 1 n && leb n 4) ≡ false → answer_of n x y ≡ Err Refusal.UnknownNumber
unfolding answer_of
no_kind n x y unknown = rw (differs n 1 refl unknown, differs n 2 refl unknown, differs n 3 refl unknown, differs n 4 refl unknown) refl
