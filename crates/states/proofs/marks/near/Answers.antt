-- `states::marks::near` meets its contract: a negative difference has its sign dropped, any other is taken as it is. Assumes nothing.
use mathlib.Core.Path.{refl}
use lib.Ieee.{of_bits, of_int}
use Rattle.states.specs.Marks.{near}
use Rattle.states.proofs.marks.near.Goals as goal

pub returns-then-d : goal.returns-then-d
unfolding near of_bits of_int
returns-then-d c = rw c.if-d.true refl

pub returns : goal.returns
unfolding near of_bits of_int
returns c = rw c.if-d.false refl
