-- `sums::queries::query` meets its contract: each arm stands for the kind that the number names. Assumes nothing.
use mathlib.Core.Path.{◌≡◌, refl}
use Rattle.std.proofs.Common.{arith}
use Rattle.std.proofs.lemmas.Grind.{common_steps}
use Rattle.std.specs.Prelude.{Err}
use Rattle.sums.specs.Queries.{answer_of}
use Rattle.sums.proofs.Carried.{by_kind, no_kind}
use Rattle.sums.proofs.queries.query.Goals as goal

pub returns-in_err-try_from : goal.returns-in_err-try_from
returns-in_err-try_from c =
    let s = c.args in
    let refused : answer_of s.kind s.x s.y ≡ Err c.in_err-try_from.field-0.0 =
    rw (no_kind s.kind s.x s.y c.in_err-try_from.ensures.1, c.in_err-try_from.ensures.0) refl in
    grind (arith, common_steps)

pub returns-in-Pt : goal.returns-in-Pt
returns-in-Pt c =
    let s = c.args in
    rw (by_kind s.kind c.in_ok-try_from.field-0 s.x s.y c.in_ok-try_from.ensures, c.in-Pt.is) c.from_pt.ensures

pub returns-in-Py : goal.returns-in-Py
returns-in-Py c =
    let s = c.args in
    rw (by_kind s.kind c.in_ok-try_from.field-0 s.x s.y c.in_ok-try_from.ensures, c.in-Py.is) c.from_py.ensures

pub returns-in-Hs : goal.returns-in-Hs
returns-in-Hs c =
    let s = c.args in
    rw (by_kind s.kind c.in_ok-try_from.field-0 s.x s.y c.in_ok-try_from.ensures, c.in-Hs.is) c.from_hs.ensures
