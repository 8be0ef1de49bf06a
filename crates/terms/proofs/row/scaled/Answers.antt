-- `terms::row::scaled` meets its contract: the factors still to come, put to the product so far, give the whole product. Assumes nothing.
use Prim.Native.Nat.{◌-◌}
use mathlib.Core.Path.{◌≡◌, ap, ◌∙◌}
use native.Mathlib.Omega.{arith}
use lib.IntN.{ℤ, pos, ◌-ℤ◌}
use mir.Syntax.{w8, w16}
use mir.Val.{to_z, of_z}
use mir.Facts.{to_z-of_z}
use Rattle.terms.specs.Sum.{scaled}
use Rattle.terms.proofs.Exponents.{lowered_none, scaled_next}
use Rattle.terms.proofs.row.scaled.Goals as goal

pub loop-k-init : goal.loop-k-init
loop-k-init c = let z : c.args.d - 0 ≡ c.args.d = omega arith in rw (lowered_none, z)

pub loop-k-preserved : goal.loop-k-preserved
loop-k-preserved c =
    let w = c.lowered in
    let e : to_z w16 (of_z w16 w.result) ≡ to_z w8 (of_z w8 c.args.e) -ℤ pos c.loop-k.k = to_z-of_z {w = w16} (record { sfits = w.type_inv }) ∙ w.ensures in
    rw e (scaled_next c.loop-k.f (to_z w8 (of_z w8 c.args.e)) c.loop-k.k c.args.d c.loop-k-test.true c.loop-k.invariant)

pub returns : goal.returns
unfolding scaled
returns c =
    let z : c.args.d - c.loop-k.k ≡ 0 = omega arith in
    (rw z at c.loop-k.invariant) ∙ ap (λ (y : ℤ). scaled c.args.n y c.args.d) (to_z-of_z c.ranges.e)
