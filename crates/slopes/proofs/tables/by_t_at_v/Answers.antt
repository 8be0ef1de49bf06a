-- `slopes::tables::by_t_at_v` meets its contract: each entry is worked as the definition writes it. Assumes nothing.
use mathlib.Core.Path.{refl}
use lib.Ieee.{of_bits, of_int}
use Rattle.slopes.proofs.tables.by_t_at_v.Goals as goal

pub returns : goal.returns
unfolding of_bits of_int
returns c = refl
