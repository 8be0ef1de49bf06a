-- `backward::t2cps::T2cps` has the form of its equation: table, arguments and what the sum gives are those of specs/T2cps. Assumes nothing.
use mathlib.Core.Path.{refl}
use lib.Ieee.{round, of_int, of_bits}
use Rattle.arith.specs.Printed.{printed}
use Rattle.terms.specs.Sum.{rows}
use Rattle.backward.specs.Equation.{entered, given, value_of}
use Rattle.backward.specs.T2cps.{table, arguments, t2cps}
use Rattle.backward.proofs.t2cps.T2cpsEquation.form.Goals as goal

pub returns : goal.returns
unfolding rows entered given value_of table arguments t2cps printed round of_int of_bits
returns c = λ x y. refl
