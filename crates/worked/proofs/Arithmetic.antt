-- Worked numbers: the definitions compute to what another program gives for them, bit for bit. Assumes nothing.
use mathlib.Core.Path.{◌≡◌, refl}
use mathlib.Core.Bool.{true, false}
use lib.IntN.{pos}
use lib.Ieee.{binary64, size, odd, round, of_int, of_bits, add, sub, mul, div}
use Rattle.arith.specs.Printed.{less, printed, coefficient}
use Rattle.arith.specs.Power.{raised, power_of}
use Rattle.elementary.specs.Root.{floor_root, near_root, root_units, root_of}
use Rattle.elementary.specs.Log.{ln2, series, log_sum, parts_at, parts_of, log_units, log_of}

-- -0.37563603672040 · 10^1, and 16.53
coefficient_printed : coefficient 14 true 37563603672040 (pos 1) ≡ of_bits binary64 0xc00e_0d06_aa09_0dc9
unfolding printed round of_bits
coefficient_printed = refl

decimal_printed : printed false 1653 (less 2) ≡ of_bits binary64 0x4030_87ae_147a_e148
unfolding printed round of_bits
decimal_printed = refl

-- 1.1^(-3)
power_worked : power_of (of_bits binary64 0x3ff1_9999_9999_999a) (less 3) ≡ of_bits binary64 0x3fe8_0ac5_565b_efd6
unfolding power_of raised of_int of_bits round mul div
power_worked = refl

-- the roots of 2 and of the smallest f64
root_of_two : root_of (of_bits binary64 0x4000_0000_0000_0000) ≡ of_bits binary64 0x3ff6_a09e_667f_3bcd
unfolding root_of root_units near_root floor_root of_bits size odd
root_of_two = refl

root_of_the_smallest : root_of (of_bits binary64 1) ≡ of_bits binary64 0x1e60_0000_0000_0000
unfolding root_of root_units near_root floor_root of_bits size odd
root_of_the_smallest = refl

-- ln 10
log_of_ten : log_of (of_bits binary64 0x4024_0000_0000_0000) ≡ of_bits binary64 0x4002_6bb1_bbb5_5515
unfolding log_of log_units parts_of parts_at log_sum series ln2 printed of_int of_bits round size odd add sub mul div
log_of_ten = refl
