-- `sums::candidates::candidate` meets its contract: a p below the least ends in 7; at any other the T is that of p and h, and the candidate goes as its trial says.
-- Assumes nothing.
use mathlib.Core.Path.{◌≡◌, refl}
use mathlib.Core.Bool.{true, false, cond}
use lib.Ieee.{Float, le, round, of_bits}
use Rattle.std.proofs.Common.{arith}
use Rattle.std.proofs.lemmas.Grind.{common_steps}
use Rattle.std.specs.Prelude.{Err}
use Rattle.arith.specs.Printed.{printed}
use Rattle.equations.specs.declared.Phase.{Phase}
use Rattle.places.specs.Places.{p_triple}
use Rattle.refusals.specs.declared.Refusal.{Refusal}
use Rattle.workings.specs.declared.Given.TheVariants.{Enthalpy}
use Rattle.sums.specs.Queries.{tried_of, candidate_of, pressure_of, temperature_of}
use Rattle.sums.specs.Outcomes.{full_in}
use Rattle.sums.proofs.Carried.{tried_by}
use Rattle.sums.proofs.candidates.candidate.Goals as goal

candidate_lem : (phase : Phase) (h s : Float) → candidate_of phase h s
    ≡ (let p = pressure_of phase h s in cond (le p_triple p) (tried_of phase p (temperature_of Enthalpy phase p h) h s) (Err Refusal.NoRegion))
unfolding candidate_of
candidate_lem phase h s = refl

pub returns-in_err-t : goal.returns-in_err-t
unfolding printed round of_bits
returns-in_err-t c =
    let from-least : le p_triple c.pressure-p.result ≡ true = c.if-p.true in
    let refused : full_in (candidate_of c.args.phase c.args.h c.args.s) ≡ Err c.in_err-t.field-0.0 =
    rw (candidate_lem _ _ _, ← c.pressure-p.ensures, from-least, tried_by, ← c.temperature.ensures, ← c.in_err-t.ensures) refl in
    grind (arith, common_steps)

pub returns-then-p : goal.returns-then-p
unfolding printed round of_bits
returns-then-p c =
    let from-least : le p_triple c.pressure-p.result ≡ true = c.if-p.true in
    rw (candidate_lem _ _ _, ← c.pressure-p.ensures, from-least, tried_by, ← c.temperature.ensures, ← c.in_ok-t.ensures) c.close.ensures

pub returns : goal.returns
unfolding printed round of_bits
returns c =
    let below : le p_triple c.pressure-p.result ≡ false = c.if-p.false in
    rw (candidate_lem _ _ _, ← c.pressure-p.ensures, below) refl
