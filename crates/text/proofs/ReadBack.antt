-- A number's text reads back as the number (`decimal_reads`, `hex_reads`), so that no two numbers have the same text. Assumes nothing.
use mathlib.Core.Path.{◌≡◌, refl, ap, ◌∙◌}
use mathlib.Core.Bool.{Bool, true, false, cond}
use mathlib.Core.List.{List, [], ◌∷◌, ◌++◌}
use Prim.Native.Nat.{ℕ, zero, suc, ◌+◌, ◌-◌, ◌*◌, ◌/◌, ◌%◌, ◌^◌, ◌<◌}
use native.Mathlib.Nat.{pow-suc}
use native.Mathlib.Omega.{arith}
use lib.Dec.{ltb}
use borrow.Author.Tests.{ltb-true, lt-ltb, le-ltb}
use Rattle.text.specs.Texts.{decimal_from, decimal_of, hex_digit, hex_from, hex_of}

-- the number that digits stand for in a base, behind those that stand for a
unfoldable pub read_in : ℕ → (ℕ → ℕ) → ℕ → List ℕ → ℕ
read_in base digit a [] = a
read_in base digit a (d ∷ ds) = read_in base digit (base * a + digit d) ds

-- 0 to 9
abbrev pub decimal_digit : ℕ → ℕ
decimal_digit d = d - 48

-- 0 to 9, a to f
abbrev pub hex_value : ℕ → ℕ
hex_value d = cond (ltb d 58) (d - 48) (d - 87)

-- one digit more
read_last : (base : ℕ) (digit : ℕ → ℕ) (a : ℕ) (ds : List ℕ) (d : ℕ) → read_in base digit a (ds ++ d ∷ []) ≡ base * read_in base digit a ds + digit d
unfolding read_in
read_last base digit a [] d = refl
read_last base digit a (x ∷ ds) d = read_last base digit (base * a + digit x) ds d

-- ---- decimal

decimal_from_lem : (k n : ℕ) → n < 10 ^ k → read_in 10 decimal_digit 0 (decimal_from k n) ≡ n
unfolding decimal_from read_in
decimal_from_lem zero n h = omega arith
decimal_from_lem (suc k) n h = go (ltb n 10) refl (decimal_from_lem k (n / 10) (omega (arith, pow-suc 10 k)))
  where
    go : (t : Bool) → ltb n 10 ≡ t → read_in 10 decimal_digit 0 (decimal_from k (n / 10)) ≡ n / 10
        → read_in 10 decimal_digit 0 (cond t ((48 + n) ∷ []) (decimal_from k (n / 10) ++ (48 + n % 10) ∷ [])) ≡ n
    go true e r = omega arith
    go false e r = read_last 10 decimal_digit 0 (decimal_from k (n / 10)) (48 + n % 10) ∙ omega arith

pub decimal_reads : (n : ℕ) → n < 10 ^ 20 → read_in 10 decimal_digit 0 (decimal_of n) ≡ n
unfolding decimal_of
decimal_reads n h = decimal_from_lem 20 n h

-- ---- hexadecimal

hex_value_lem : (d : ℕ) → d < 16 → hex_value (hex_digit d) ≡ d
unfolding hex_digit
hex_value_lem d h = go (ltb d 10) refl
  where
    go : (t : Bool) → ltb d 10 ≡ t → hex_value (cond t (48 + d) (87 + d)) ≡ d
    go true e = simp (lt-ltb (48 + d) 58 (omega (arith, ltb-true d 10 e))) (omega arith)
    go false e = simp (le-ltb (87 + d) 58 (omega arith)) (omega arith)

hex_from_lem : (k n : ℕ) → n < 16 ^ k → read_in 16 hex_value 0 (hex_from k n) ≡ n
unfolding hex_from read_in
hex_from_lem zero n h = omega arith
hex_from_lem (suc k) n h =
    let r : read_in 16 hex_value 0 (hex_from k (n / 16)) ≡ n / 16 = hex_from_lem k (n / 16) (omega (arith, pow-suc 16 k)) in
    read_last 16 hex_value 0 (hex_from k (n / 16)) (hex_digit (n % 16))
    ∙ ap (λ (x : ℕ). 16 * read_in 16 hex_value 0 (hex_from k (n / 16)) + x) (hex_value_lem (n % 16) (omega arith))
    ∙ omega arith

pub hex_reads : (n : ℕ) → n < 16 ^ 16 → read_in 16 hex_value 0 (hex_of n) ≡ n
unfolding hex_of
hex_reads n h = hex_from_lem 16 n h
