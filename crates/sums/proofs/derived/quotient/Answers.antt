-- `sums::derived::quotient` meets its contract: the numbers are judged first; the quotient is that where the state was found, or of the state from (h,s).
-- Assumes nothing.
use mathlib.Core.Path.{◌≡◌, refl, sym, ◌∙◌}
use mathlib.Core.Bool.{true}
use Prim.Native.Nat.{ℕ}
use lib.Ieee.{Float}
use Rattle.std.proofs.Common.{arith}
use Rattle.std.proofs.lemmas.Grind.{common_steps}
use Rattle.std.specs.Prelude.{Err}
use Rattle.slopes.specs.Slopes.{all_known, derivative_at}
use Rattle.sums.specs.declared.kinds.Kind.{Kind}
use Rattle.sums.specs.Queries.{number_of, answer_pt, answer_py, answer_hs, state_hs}
use Rattle.sums.specs.Quotients.{quotient_at, quotient_of}
use Rattle.sums.proofs.Carried.{answer_by, by_kind, no_kind, quotient_same, quotient_there}
use Rattle.sums.proofs.derived.quotient.Goals as goal

kind_lem : (n : ℕ) (kind : Kind) (c d : Float) (z x y : ℕ) → all_known z x y ≡ true → number_of kind ≡ n → quotient_of n c d z x y ≡ quotient_at (answer_by kind c d) z x y
unfolding quotient_of
kind_lem n kind c d z x y known named = rw (known, by_kind n kind c d named) refl

pub returns-then-not-all_known : goal.returns-then-not-all_known
unfolding quotient_of
returns-then-not-all_known c = rw (← c.all_known.ensures, c.if-not-all_known.true)

pub returns-in_err-try_from : goal.returns-in_err-try_from
unfolding quotient_of
returns-in_err-try_from c =
    let s = c.args in
    let known : all_known s.z s.x s.y ≡ true = sym c.all_known.ensures ∙ c.if-not-all_known.false in
    let refused : quotient_of s.kind s.c s.d s.z s.x s.y ≡ Err c.in_err-try_from.field-0.0 =
    rw (known, no_kind s.kind s.c s.d c.in_err-try_from.ensures.1, c.in_err-try_from.ensures.0) refl in
    grind (arith, common_steps)

pub returns-in_err-place_pt-in-Pt : goal.returns-in_err-place_pt-in-Pt
unfolding answer_pt
returns-in_err-place_pt-in-Pt c =
    let s = c.args in
    let known : all_known s.z s.x s.y ≡ true = sym c.all_known.ensures ∙ c.if-not-all_known.false in
    let refused : quotient_of s.kind s.c s.d s.z s.x s.y ≡ Err c.in_err-place_pt-in-Pt.field-0.0 =
    rw (kind_lem s.kind c.in_ok-try_from.field-0 s.c s.d s.z s.x s.y known c.in_ok-try_from.ensures, c.in-Pt.is, ← c.in_err-place_pt-in-Pt.ensures) refl in
    grind (arith, common_steps)

pub returns-in_ok-place_pt-in-Pt : goal.returns-in_ok-place_pt-in-Pt
unfolding answer_pt derivative_at
returns-in_ok-place_pt-in-Pt c =
    let s = c.args in
    let known : all_known s.z s.x s.y ≡ true = sym c.all_known.ensures ∙ c.if-not-all_known.false in
    rw (
      c.quotient_at.ensures,
      kind_lem s.kind c.in_ok-try_from.field-0 s.c s.d s.z s.x s.y known c.in_ok-try_from.ensures,
      c.in-Pt.is,
      ← c.in_ok-place_pt-in-Pt.ensures,
      known,
    ) refl

pub returns-in_err-a-in-Py : goal.returns-in_err-a-in-Py
returns-in_err-a-in-Py c =
    let s = c.args in
    let known : all_known s.z s.x s.y ≡ true = sym c.all_known.ensures ∙ c.if-not-all_known.false in
    let refused : quotient_of s.kind s.c s.d s.z s.x s.y ≡ Err c.in_err-a-in-Py.field-0.0 =
    rw (kind_lem s.kind c.in_ok-try_from.field-0 s.c s.d s.z s.x s.y known c.in_ok-try_from.ensures, c.in-Py.is, quotient_there (answer_py c.in-Py.given s.c s.d) s.z s.x s.y, ← c.in_err-a-in-Py.ensures) refl in
    grind (arith, common_steps)

pub returns-in-Single : goal.returns-in-Single
unfolding derivative_at
returns-in-Single c =
    let s = c.args in
    let known : all_known s.z s.x s.y ≡ true = sym c.all_known.ensures ∙ c.if-not-all_known.false in
    rw (
      c.quotient_at-in-Single.ensures,
      kind_lem s.kind c.in_ok-try_from.field-0 s.c s.d s.z s.x s.y known c.in_ok-try_from.ensures,
      c.in-Py.is,
      quotient_there (answer_py c.in-Py.given s.c s.d) s.z s.x s.y,
      ← c.in_ok-a-in-Py.ensures,
      c.in-Single.is,
      known,
    ) refl

pub returns-in-Wet : goal.returns-in-Wet
returns-in-Wet c =
    let s = c.args in
    let known : all_known s.z s.x s.y ≡ true = sym c.all_known.ensures ∙ c.if-not-all_known.false in
    rw (
      kind_lem s.kind c.in_ok-try_from.field-0 s.c s.d s.z s.x s.y known c.in_ok-try_from.ensures,
      c.in-Py.is,
      quotient_there (answer_py c.in-Py.given s.c s.d) s.z s.x s.y,
      ← c.in_ok-a-in-Py.ensures,
      c.in-Wet.is,
    ) refl

pub returns-in_err-of_hs-in-Hs : goal.returns-in_err-of_hs-in-Hs
unfolding answer_hs
returns-in_err-of_hs-in-Hs c =
    let s = c.args in
    let known : all_known s.z s.x s.y ≡ true = sym c.all_known.ensures ∙ c.if-not-all_known.false in
    let refused : quotient_of s.kind s.c s.d s.z s.x s.y ≡ Err c.in_err-of_hs-in-Hs.field-0.0 =
    rw (kind_lem s.kind c.in_ok-try_from.field-0 s.c s.d s.z s.x s.y known c.in_ok-try_from.ensures, c.in-Hs.is, quotient_same (state_hs s.c s.d) s.z s.x s.y, ← c.in_err-of_hs-in-Hs.ensures) refl in
    grind (arith, common_steps)

pub returns-in_ok-of_hs-in-Hs : goal.returns-in_ok-of_hs-in-Hs
unfolding answer_hs derivative_at
returns-in_ok-of_hs-in-Hs c =
    let s = c.args in
    let known : all_known s.z s.x s.y ≡ true = sym c.all_known.ensures ∙ c.if-not-all_known.false in
    rw (
      c.quotient.ensures,
      kind_lem s.kind c.in_ok-try_from.field-0 s.c s.d s.z s.x s.y known c.in_ok-try_from.ensures,
      c.in-Hs.is,
      quotient_same (state_hs s.c s.d) s.z s.x s.y,
      ← c.in_ok-of_hs-in-Hs.ensures,
      known,
    ) refl
