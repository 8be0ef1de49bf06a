-- `slopes::tables::by_p_and_t` meets its contract: both rows take p in kPa. Assumes nothing.
use mathlib.Core.Path.{refl}
use lib.Ieee.{of_bits, of_int}
use Rattle.slopes.specs.Slopes.{slopes_pt}
use Rattle.slopes.proofs.tables.by_p_and_t.Goals as goal

pub returns : goal.returns
unfolding slopes_pt of_bits of_int
returns c = rw (c.by_t.ensures, c.by_p.ensures) refl
