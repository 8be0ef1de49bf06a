-- `slopes::tables::by_v_and_t` meets its contract: both rows take p in kPa. Assumes nothing.
use mathlib.Core.Path.{refl}
use lib.Ieee.{of_bits, of_int}
use Rattle.slopes.specs.Slopes.{slopes_vt}
use Rattle.slopes.proofs.tables.by_v_and_t.Goals as goal

pub returns : goal.returns
unfolding slopes_vt of_bits of_int
returns c = rw (c.by_t_at_v.ensures, c.by_v.ensures) refl
