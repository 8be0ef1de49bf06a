-- `Liquid::response` meets its contract: each field is its formula, and its literals are the definition's numbers, which computing shows. Assumes nothing.
use mathlib.Core.Path.{refl}
use lib.Ieee.{of_int, of_bits}
use Rattle.liquid.proofs.region1.LiquidGamma.response.Goals as goal

pub returns : goal.returns
unfolding of_int of_bits
returns c = refl
