-- `dense::densities::density` meets its contract: after k turns of the loop the bracket is the first, halved k times. Assumes nothing.
use mathlib.Core.Path.{◌≡◌, refl, ap, ◌∙◌}
use native.Mathlib.Omega.{arith}
use native.Mathlib.Numerals.{add-one}
use Rattle.brackets.specs.Brackets.{times}
use Rattle.dense.specs.Density.{halvings3, halved3, density3}
use Rattle.dense.proofs.densities.density.Goals as goal

pub loop-init : goal.loop-init
unfolding times
loop-init c = c.first_bracket-b.ensures

pub loop-preserved : goal.loop-preserved
unfolding times
loop-preserved c =
    let a = c.args in
    rw (add-one) (c.halved-b.ensures ∙ ap (halved3 a.p a.t) c.loop.invariant)

pub returns : goal.returns
unfolding density3
returns c =
    let full : c.loop.counter ≡ halvings3 = omega arith in
    rw (c.middle.ensures, c.loop.invariant, full) refl
