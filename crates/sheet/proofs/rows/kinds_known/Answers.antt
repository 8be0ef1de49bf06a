-- `sheet::rows::kinds_known` meets its contract. The invariant: the rows passed have known kinds, so they start in the slice. Assumes nothing.
use mathlib.Core.Path.{refl, sym, ap, ◌∙◌}
use native.Mathlib.Omega.{arith}
use Rattle.sheet.specs.Rows.{kind_known, kinds_known}
use Rattle.sheet.proofs.RowLaws.{kinds_held, kinds_next, kinds_bad}
use Rattle.sheet.proofs.rows.kinds_known.Goals as goal

pub loop-k-init : goal.loop-k-init
unfolding kinds_known
loop-k-init c = refl

pub overflow_mul-k : goal.overflow_mul-k
overflow_mul-k c =
    omega (arith, kinds_held c.loop-k.k _ c.loop-k.invariant)

pub returns-then-not-kind_known : goal.returns-then-not-kind_known
returns-then-not-kind_known c =
    let a = c.args in
    sym (kinds_bad a.n a.rows.now c.loop-k.k c.loop-k-test.true
    (sym (c.kind_known.ensures ∙ ap kind_known c.u64_at.ensures) ∙ c.if-not-kind_known.true))

pub loop-k-preserved : goal.loop-k-preserved
loop-k-preserved c =
    kinds_next c.loop-k.k _ c.loop-k.invariant (sym (c.kind_known.ensures ∙ ap kind_known c.u64_at.ensures) ∙ c.if-not-kind_known.false)
