-- `dense::densities::first_bracket` meets its contract: each return stands under the tests that led there, and the ends are the definition's numbers, which
-- computing shows. Assumes nothing.
use mathlib.Core.Path.{◌≡◌, refl}
use mathlib.Core.Bool.{true, false}
use lib.Ieee.{le, round, of_bits, of_int}
use Rattle.arith.specs.Printed.{printed}
use Rattle.dense.specs.Region3.{T*}
use Rattle.dense.specs.Density.{first3}
use Rattle.dense.proofs.densities.first_bracket.Goals as goal

pub returns-then-t : goal.returns-then-t
unfolding first3 printed round of_bits of_int
returns-then-t c = let above : le T* c.args.t ≡ true = c.if-t.true in rw above refl

pub returns-then-reaches : goal.returns-then-reaches
unfolding first3 printed round of_bits of_int
returns-then-reaches c =
    let below : le T* c.args.t ≡ false = c.if-t.false in
    rw (below, ← c.ps.ensures, ← c.reaches.ensures, c.if-reaches.true) refl

pub returns : goal.returns
unfolding first3 printed round of_bits of_int
returns c =
    let below : le T* c.args.t ≡ false = c.if-t.false in
    rw (below, ← c.ps.ensures, ← c.reaches.ensures, c.if-reaches.false) refl
