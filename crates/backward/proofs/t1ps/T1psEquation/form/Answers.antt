-- `backward::t1ps::T1ps` has the form of its equation: table, arguments and what the sum gives are those of specs/T1ps. Assumes nothing.
use mathlib.Core.Path.{refl}
use lib.Ieee.{round, of_int, of_bits}
use Rattle.arith.specs.Printed.{printed}
use Rattle.terms.specs.Sum.{rows}
use Rattle.backward.specs.Equation.{entered, given, value_of}
use Rattle.backward.specs.T1ps.{table, arguments, t1ps}
use Rattle.backward.proofs.t1ps.T1psEquation.form.Goals as goal

pub returns : goal.returns
unfolding rows entered given value_of table arguments t1ps printed round of_int of_bits
returns c = λ x y. refl
