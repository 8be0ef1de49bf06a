-- `terms::row::plus_six` meets its contract: each sum gets the row's term of its orders. Assumes nothing.
use mathlib.Core.Path.{refl, ap, ◌∙◌}
use lib.Ieee.{Float}
use mir.Syntax.{w8}
use mir.Val.{to_z, of_z}
use mir.Facts.{to_z-of_z}
use Rattle.terms.specs.Sum.{scaled}
use Rattle.terms.specs.Six.{plus_six}
use Rattle.terms.proofs.Terms.{added}
use Rattle.terms.proofs.row.plus_six.Goals as goal

pub returns : goal.returns
unfolding plus_six scaled
returns c =
    let x = c.args in
    let i = to_z-of_z c.ranges.i in
    let j = to_z-of_z c.ranges.j in
    let b2 = c.power-b2.ensures in
    let b1 = c.power-b1.ensures in
    let b0 = c.power-b0.ensures in
    let a2 = c.power-a2.ensures in
    let a1 = c.power-a1.ensures in
    let a0 = c.power-a0.ensures in
    let ni = c.scaled-ni.ensures in
    λ t. record {
      f = added 0 0 x.a x.b x.s.f x.n x.i x.j i j c.plus.ensures refl a0 b0 t;
      fa = added 1 0 x.a x.b x.s.fa x.n x.i x.j i j c.plus-2.ensures ni a1 b0 t;
      faa = added 2 0 x.a x.b x.s.faa x.n x.i x.j i j c.plus-3.ensures c.scaled.ensures a2 b0 t;
      fb = added 0 1 x.a x.b x.s.fb x.n x.i x.j i j c.plus-4.ensures c.scaled-2.ensures a0 b1 t;
      fbb = added 0 2 x.a x.b x.s.fbb x.n x.i x.j i j c.plus-5.ensures c.scaled-3.ensures a0 b2 t;
      fab = added 1 1 x.a x.b x.s.fab x.n x.i x.j i j c.plus-6.ensures (c.scaled-4.ensures ∙ ap (λ (f : Float). scaled f (to_z w8 (of_z w8 x.j)) 1) ni) a1 b1 t;
    }
