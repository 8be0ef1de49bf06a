-- `backward::t2cph::T2cph` has the form of its equation: table, arguments and what the sum gives are those of specs/T2cph. Assumes nothing.
use mathlib.Core.Path.{refl}
use lib.Ieee.{round, of_int, of_bits}
use Rattle.arith.specs.Printed.{printed}
use Rattle.terms.specs.Sum.{rows}
use Rattle.backward.specs.Equation.{entered, given, value_of}
use Rattle.backward.specs.T2cph.{table, arguments, t2cph}
use Rattle.backward.proofs.t2cph.T2cphEquation.form.Goals as goal

pub returns : goal.returns
unfolding rows entered given value_of table arguments t2cph printed round of_int of_bits
returns c = λ x y. refl
