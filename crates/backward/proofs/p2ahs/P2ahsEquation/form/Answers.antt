-- `backward::p2ahs::P2ahs` has the form of its equation: table, arguments and what the sum gives are those of specs/P2ahs. Assumes nothing.
use mathlib.Core.Path.{refl}
use lib.Ieee.{round, of_int, of_bits}
use Rattle.arith.specs.Printed.{printed}
use Rattle.terms.specs.Sum.{rows}
use Rattle.backward.specs.Equation.{entered, given, value_of}
use Rattle.backward.specs.P2ahs.{table, arguments, p2ahs}
use Rattle.backward.proofs.p2ahs.P2ahsEquation.form.Goals as goal

pub returns : goal.returns
unfolding rows entered given value_of table arguments p2ahs printed round of_int of_bits
returns c = λ x y. refl
