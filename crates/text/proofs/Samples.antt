-- Texts worked out by hand, which the definitions give. Assumes nothing.
use mathlib.Core.Path.{◌≡◌, refl}
use mathlib.Core.Bool.{true, false}
use mathlib.Core.List.{[], ◌∷◌}
use lib.IntN.{pos, negsuc}
use lib.Ieee.{nan, inf, fin, binary64, round, is_nan, to_bits}
use Rattle.std.specs.Prelude.{Some, None}
use Rattle.text.specs.Texts.{decimal_from, decimal_of, hex_digit, hex_from, hex_of, value_of, column_of}
use Rattle.text.specs.Decimals.{nearest_of, scaled_of, digits_from, pointed_of, sign_of, modest, fixed_of}

-- `0`
zero_decimal : decimal_of 0 ≡ 48 ∷ []
unfolding decimal_of decimal_from
zero_decimal = refl

-- `28112`
bytes_decimal : decimal_of 28112 ≡ 50 ∷ 56 ∷ 49 ∷ 49 ∷ 50 ∷ []
unfolding decimal_of decimal_from
bytes_decimal = refl

-- `18446744073709551615`, the last u64
last_decimal : decimal_of 0xffff_ffff_ffff_ffff
    ≡ 49 ∷ 56 ∷ 52 ∷ 52 ∷ 54 ∷ 55 ∷ 52 ∷ 52 ∷ 48 ∷ 55 ∷ 51 ∷ 55 ∷ 48 ∷ 57 ∷ 53 ∷ 53 ∷ 49 ∷ 54 ∷ 49 ∷ 53 ∷ []
unfolding decimal_of decimal_from
last_decimal = refl

-- `0123456789abcdef`
digits_hex : hex_of 0x0123_4567_89ab_cdef
    ≡ 48 ∷ 49 ∷ 50 ∷ 51 ∷ 52 ∷ 53 ∷ 54 ∷ 55 ∷ 56 ∷ 57 ∷ 97 ∷ 98 ∷ 99 ∷ 100 ∷ 101 ∷ 102 ∷ []
unfolding hex_of hex_from hex_digit
digits_hex = refl

-- 1.0 is `3ff0000000000000`
one_column : column_of (Some (fin false 1 (pos 0))) ≡ 51 ∷ 102 ∷ 102 ∷ 48 ∷ 48 ∷ 48 ∷ 48 ∷ 48 ∷ 48 ∷ 48 ∷ 48 ∷ 48 ∷ 48 ∷ 48 ∷ 48 ∷ 48 ∷ []
unfolding column_of value_of hex_of hex_from hex_digit is_nan to_bits
one_column = refl

-- minus infinity is `fff0000000000000`
infinity_column : column_of (Some (inf true)) ≡ 102 ∷ 102 ∷ 102 ∷ 48 ∷ 48 ∷ 48 ∷ 48 ∷ 48 ∷ 48 ∷ 48 ∷ 48 ∷ 48 ∷ 48 ∷ 48 ∷ 48 ∷ 48 ∷ []
unfolding column_of value_of hex_of hex_from hex_digit is_nan to_bits
infinity_column = refl

-- `nan`
nan_column : column_of (Some nan) ≡ 110 ∷ 97 ∷ 110 ∷ []
unfolding column_of value_of is_nan
nan_column = refl

-- `-`
empty_column : column_of None ≡ 45 ∷ []
unfolding column_of
empty_column = refl

-- ---- plain decimals

-- 8 with three is `8.000`
eight_fixed : fixed_of (fin false 1 (pos 3)) 3 ≡ 56 ∷ 46 ∷ 48 ∷ 48 ∷ 48 ∷ []
unfolding fixed_of modest sign_of scaled_of nearest_of pointed_of digits_from decimal_of decimal_from
eight_fixed = refl

-- a half goes away from zero: 0.125 = 1 / 8 with two is `0.13`, and -0.125 is `-0.13`
half_up_fixed : fixed_of (fin false 1 (negsuc 2)) 2 ≡ 48 ∷ 46 ∷ 49 ∷ 51 ∷ []
unfolding fixed_of modest sign_of scaled_of nearest_of pointed_of digits_from decimal_of decimal_from
half_up_fixed = refl

half_below_zero_fixed : fixed_of (fin true 1 (negsuc 2)) 2 ≡ 45 ∷ 48 ∷ 46 ∷ 49 ∷ 51 ∷ []
unfolding fixed_of modest sign_of scaled_of nearest_of pointed_of digits_from decimal_of decimal_from
half_below_zero_fixed = refl

-- it is the exact value that is rounded: the f64 nearest 1.005 is 1.00499999999999989.., and with two is `1.00`
exact_fixed : fixed_of (round binary64 false 1005 1000) 2 ≡ 49 ∷ 46 ∷ 48 ∷ 48 ∷ []
unfolding fixed_of modest sign_of scaled_of nearest_of pointed_of digits_from decimal_of decimal_from round
exact_fixed = refl

-- 999.9996 with three is `1000.000`
carried_fixed : fixed_of (round binary64 false 9999996 10000) 3 ≡ 49 ∷ 48 ∷ 48 ∷ 48 ∷ 46 ∷ 48 ∷ 48 ∷ 48 ∷ []
unfolding fixed_of modest sign_of scaled_of nearest_of pointed_of digits_from decimal_of decimal_from round
carried_fixed = refl

-- 2.5 with none is `3`, with seven, which is more than three, `2.500`
no_point_fixed : fixed_of (fin false 5 (negsuc 0)) 0 ≡ 51 ∷ []
unfolding fixed_of modest sign_of scaled_of nearest_of pointed_of decimal_of decimal_from
no_point_fixed = refl

three_at_most_fixed : fixed_of (fin false 5 (negsuc 0)) 7 ≡ 50 ∷ 46 ∷ 53 ∷ 48 ∷ 48 ∷ []
unfolding fixed_of modest sign_of scaled_of nearest_of pointed_of digits_from decimal_of decimal_from
three_at_most_fixed = refl

-- the f64 next below zero, -2^-1074, with one is `-0.0`
next_below_zero_fixed : fixed_of (fin true 1 (negsuc 1073)) 1 ≡ 45 ∷ 48 ∷ 46 ∷ 48 ∷ []
unfolding fixed_of modest sign_of scaled_of nearest_of pointed_of digits_from decimal_of decimal_from
next_below_zero_fixed = refl

-- 2^53 stands by its bits, `4340000000000000`, and NaN by its name
large_fixed : fixed_of (fin false 1 (pos 53)) 1 ≡ 52 ∷ 51 ∷ 52 ∷ 48 ∷ 48 ∷ 48 ∷ 48 ∷ 48 ∷ 48 ∷ 48 ∷ 48 ∷ 48 ∷ 48 ∷ 48 ∷ 48 ∷ 48 ∷ []
unfolding fixed_of modest value_of hex_of hex_from hex_digit is_nan to_bits
large_fixed = refl

nan_fixed : fixed_of nan 2 ≡ 110 ∷ 97 ∷ 110 ∷ []
unfolding fixed_of modest value_of is_nan
nan_fixed = refl
