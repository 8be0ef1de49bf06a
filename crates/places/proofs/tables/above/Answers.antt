-- `places::tables::above` meets its contract: each return stands under the tests that led there. Assumes nothing.
use mathlib.Core.Path.{◌≡◌, refl}
use mathlib.Core.Bool.{true, false}
use lib.Ieee.{le, round, of_bits, of_int}
use Rattle.arith.specs.Printed.{printed}
use Rattle.places.specs.Places.{p_most5, above_of}
use Rattle.places.proofs.tables.above.Goals as goal

pub returns-then-p-p_b23 : goal.returns-then-p-p_b23
unfolding above_of printed round of_bits of_int
returns-then-p-p_b23 c =
    let vapour : le c.args.p c.p_b23.result ≡ true = c.if-p-p_b23.true in
    rw (c.if-t.true, ← c.p_b23.ensures, vapour) refl

pub returns-then-t : goal.returns-then-t
unfolding above_of printed round of_bits of_int
returns-then-t c =
    let dense : le c.args.p c.p_b23.result ≡ false = c.if-p-p_b23.false in
    rw (c.if-t.true, ← c.p_b23.ensures, dense) refl

pub returns-then-t-2 : goal.returns-then-t-2
unfolding above_of printed round of_bits of_int
returns-then-t-2 c = rw (c.if-t.false, c.if-t-2.true) refl

pub returns-then-p : goal.returns-then-p
unfolding above_of printed round of_bits of_int
returns-then-p c =
    let within : le c.args.p p_most5 ≡ true = c.if-p.true in
    rw (c.if-t.false, c.if-t-2.false, within) refl

pub returns : goal.returns
unfolding above_of printed round of_bits of_int
returns c =
    let above : le c.args.p p_most5 ≡ false = c.if-p.false in
    rw (c.if-t.false, c.if-t-2.false, above) refl
