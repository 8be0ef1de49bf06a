-- `settle::judge` meets its contract: a kind that may not be posted is refused, and the place of p and the h or s is taken apart as `judged_by` does. Assumes nothing.
use mathlib.Core.Path.{◌≡◌, refl}
use mathlib.Core.Bool.{Bool, true, false, cond}
use Rattle.std.specs.Prelude.{Some, None, Ok, Err, ok_or}
use Rattle.std.proofs.lemmas.Result.{err_from_is_err_and}
use Rattle.refusals.specs.declared.Refusal.{Refusal}
use Rattle.workings.specs.declared.Given.{Given}
use Rattle.settle.specs.Settle.{posted_of, given_of, judged_of}
use Rattle.settle.proofs.judge.Goals as goal

-- what a kind gives, where it may be posted
taken : (b : Bool) (g h : Given) → ok_or (cond b (Some g) None) Refusal.UnknownNumber ≡ Ok h → (b ≡ true) × (g ≡ h)
taken true g h e = (refl, cc)
taken false g h e = cc

-- and the refusal, where it may not
turned_away : (b : Bool) (g : Given) (why : Refusal) → ok_or (cond b (Some g) None) Refusal.UnknownNumber ≡ Err why → (b ≡ false) × (Refusal.UnknownNumber ≡ why)
turned_away true g why e = cc
turned_away false g why e = (refl, cc)

pub returns-in_err-given : goal.returns-in_err-given
unfolding judged_of
returns-in_err-given c =
    let refused = err_from_is_err_and c.from_residual.result c.from_residual.ensures.1 in
    let a = c.args in
    let other =
    turned_away (posted_of a.kind) (given_of a.kind) c.in_err-given.field-0.0 (rw (← c.posted.ensures, ← c.ok_or.ensures.value) c.in_err-given.was) in
    rw (refused.1, refused.2, other.0, ← other.1) refl

pub returns-in_err-phase : goal.returns-in_err-phase
unfolding judged_of
returns-in_err-phase c =
    let refused = err_from_is_err_and c.from_residual-in_err-phase.result c.from_residual-in_err-phase.ensures.1 in
    let a = c.args in
    let posted = taken (posted_of a.kind) (given_of a.kind) c.in_ok-given.given (rw (← c.posted.ensures, ← c.ok_or.ensures.value) c.in_ok-given.was) in
    rw (refused.1, refused.2, posted.0, posted.1, ← c.place_py.ensures, c.in_err-phase.was) refl

pub returns-in-Phase : goal.returns-in-Phase
unfolding judged_of
returns-in-Phase c =
    let a = c.args in
    let posted = taken (posted_of a.kind) (given_of a.kind) c.in_ok-given.given (rw (← c.posted.ensures, ← c.ok_or.ensures.value) c.in_ok-given.was) in
    rw (posted.0, posted.1, ← c.place_py.ensures, c.in_ok-phase.was, c.in-Phase.is, ← c.first_bracket-b.ensures) refl

pub returns-in-Wet : goal.returns-in-Wet
unfolding judged_of
returns-in-Wet c =
    let a = c.args in
    let posted = taken (posted_of a.kind) (given_of a.kind) c.in_ok-given.given (rw (← c.posted.ensures, ← c.ok_or.ensures.value) c.in_ok-given.was) in
    rw (posted.0, posted.1, ← c.place_py.ensures, c.in_ok-phase.was, c.in-Wet.is) refl
