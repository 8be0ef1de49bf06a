-- `states::marks::verified` meets its contract: the margin and the value are those of the property that is given. Assumes nothing.
use lib.Ieee.{round, of_bits}
use Rattle.arith.specs.Printed.{printed}
use Rattle.states.specs.Marks.{verified_of}
use Rattle.states.proofs.marks.verified.Goals as goal

pub returns : goal.returns
unfolding verified_of printed round of_bits
returns c = rw (c.near.ensures, c.given_of.ensures, c.given_of-2.ensures)
