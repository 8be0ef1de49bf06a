-- `settle::first_bracket` meets its contract: the ends that are constants are the printed temperatures. Assumes nothing.
use mathlib.Core.Path.{refl}
use lib.Ieee.{round, of_bits}
use Rattle.arith.specs.Printed.{printed}
use Rattle.settle.specs.Settle.{bracket_of}
use Rattle.settle.proofs.first_bracket.Goals as goal

pub returns-in-Liquid : goal.returns-in-Liquid
unfolding bracket_of printed round of_bits
returns-in-Liquid c = rw (c.in-Liquid.is, c.liquid_end.ensures) refl

pub returns-in-Vapour : goal.returns-in-Vapour
unfolding bracket_of printed round of_bits
returns-in-Vapour c = rw (c.in-Vapour.is, c.vapour_start.ensures) refl
