-- The code's literals, which a proof meets as their bits, are the definitions' numbers. Assumes nothing.
use mathlib.Core.Path.{◌≡◌, refl}
use lib.Ieee.{nan, binary64, of_int, of_bits}
use Rattle.arith.specs.F64.{f64}

pub one_is : of_bits binary64 0x3ff0_0000_0000_0000 ≡ f64 1
unfolding of_bits of_int
one_is = refl

pub two_is : of_bits binary64 0x4000_0000_0000_0000 ≡ f64 2
unfolding of_bits of_int
two_is = refl

-- f64::NAN
pub nan_is : of_bits binary64 0x7ff8_0000_0000_0000 ≡ nan
unfolding of_bits
nan_is = refl
