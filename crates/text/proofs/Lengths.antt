-- How long a text can be: a number has at most 20 digits, a value 16, and a number in plain decimals 25 bytes. Assumes nothing.
use Prim.Native.Nat.{ℕ, zero, suc, ◌+◌, ◌*◌, ◌/◌, ◌%◌, ◌^◌, ◌≤◌, min}
use native.Mathlib.Nat.{mul-suc}
use native.Mathlib.Omega.{arith}
use mathlib.Core.Bool.{Bool, true, false, cond}
use mathlib.Core.List.{List, [], ◌∷◌, ◌++◌}
use lib.Dec.{ltb}
use lib.Ieee.{Float, nan, inf, fin, is_nan, binary64, to_bits}
use lib.ListN.{length, length-append}
use Rattle.text.specs.Texts.{decimal_from, decimal_of, hex_digit, hex_from, hex_of, value_of, column_of, joined}
use Rattle.std.specs.Prelude.{Option, Some, None}
use Rattle.text.specs.Decimals.{scaled_of, digits_from, pointed_of, sign_of, modest, fixed_of}

decimal_from_lem : (k n : ℕ) → length (decimal_from k n) ≤ k
unfolding decimal_from
decimal_from_lem zero n = omega arith
decimal_from_lem (suc k) n = go (ltb n 10) (decimal_from_lem k (n / 10))
  where
    go : (t : Bool) → length (decimal_from k (n / 10)) ≤ k → length (cond t ((48 + n) ∷ []) (decimal_from k (n / 10) ++ (48 + n % 10) ∷ [])) ≤ suc k
    go true h = omega arith
    go false h = omega (arith, length-append (decimal_from k (n / 10)) ((48 + n % 10) ∷ []))

pub digits : (n : ℕ) → length (decimal_of n) ≤ 20
unfolding decimal_of
digits n = decimal_from_lem 20 n

hex_from_lem : (k n : ℕ) → length (hex_from k n) ≤ k
unfolding hex_from
hex_from_lem zero n = omega arith
hex_from_lem (suc k) n = omega (arith, length-append (hex_from k (n / 16)) (hex_digit (n % 16) ∷ []), hex_from_lem k (n / 16))

value_short : (x : Float) → length (value_of x) ≤ 16
unfolding value_of hex_of
value_short x = go (is_nan x)
  where
    go : (t : Bool) → length (cond t (110 ∷ 97 ∷ 110 ∷ []) (hex_from 16 (to_bits binary64 x))) ≤ 16
    go true = omega arith
    go false = hex_from_lem 16 (to_bits binary64 x)

pub column_short : (c : Option Float) → length (column_of c) ≤ 16
unfolding column_of
column_short None = omega arith
column_short (Some x) = value_short x

-- n texts, each of at most m bytes
pub joined_short : (text : ℕ → List ℕ) (m n : ℕ) → ((k : ℕ) → length (text k) ≤ m) → length (joined text n) ≤ m * n
unfolding joined
joined_short text m zero h = omega arith
joined_short text m (suc n) h = omega (arith, length-append (joined text n) (text n), joined_short text m n h, h n, mul-suc m n)

-- ---- plain decimals

digits_from_lem : (k n : ℕ) → length (digits_from k n) ≤ k
unfolding digits_from
digits_from_lem zero n = omega arith
digits_from_lem (suc k) n = omega (arith, length-append (digits_from k (n / 10)) ((48 + n % 10) ∷ []), digits_from_lem k (n / 10))

pointed_short : (k n : ℕ) → length (pointed_of k n) ≤ 21 + k
unfolding pointed_of
pointed_short zero n = omega (arith, digits n)
pointed_short (suc k) n =
    let w = n / 10 ^ suc k in
    omega (arith, length-append (decimal_of w) (46 ∷ digits_from (suc k) n), digits w, digits_from_lem (suc k) n)

sign_short : (x : Float) → length (sign_of x) ≤ 1
unfolding sign_of
sign_short nan = omega arith
sign_short (inf s) = omega arith
sign_short (fin true m e) = omega arith
sign_short (fin false m e) = omega arith

pub fixed_short : (x : Float) (places : ℕ) → length (fixed_of x places) ≤ 25
unfolding fixed_of
fixed_short x places = go (modest x)
  where
    k : ℕ
    k = min places 3

    n : ℕ
    n = scaled_of (10 ^ k) x

    go : (t : Bool) → length (cond t (sign_of x ++ pointed_of k n) (value_of x)) ≤ 25
    go true = omega (arith, length-append (sign_of x) (pointed_of k n), sign_short x, pointed_short k n)
    go false = omega (arith, value_short x)
