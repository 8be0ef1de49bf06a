-- `Vapour::response` meets its contract: the code is the formula, and its literals are the definition's numbers, which computing shows. Assumes nothing.
use mathlib.Core.Path.{refl}
use lib.Ieee.{of_int, of_bits}
use Rattle.vapour.specs.Vapour.{vapour_response}
use Rattle.vapour.proofs.vapours.VapourGamma.response.Goals as goal

pub returns : goal.returns
unfolding vapour_response of_int of_bits
returns c = refl
