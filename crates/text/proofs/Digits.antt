-- A number's text is filled in from its end: what is left to be written, with what stands already behind it, is the whole text at every step. Assumes nothing.
use mathlib.Core.Path.{◌≡◌, refl, sym, ap, ◌∙◌}
use mathlib.Core.List.{List, [], ◌∷◌, ◌++◌}
use Prim.Native.Nat.{ℕ, zero, suc, ◌+◌, ◌-◌, ◌/◌, ◌%◌, ◌^◌, ◌≤◌, ◌<◌}
use native.Mathlib.Nat.{le_of_lt, pow-suc}
use native.Mathlib.Numerals.{add-one}
use native.Mathlib.Omega.{arith}
use lib.ListN.{length, take, drop, set, length-append}
use lib.Seq.{take-append-add, append_snoc, drop_at, length-take-le, set_split}
use borrow.Author.Tests.{lt-ltb, le-ltb}
use Rattle.text.specs.Texts.{decimal_from, hex_digit, digits_in, hex_from}
use Rattle.text.specs.Decimals.{digits_from}

-- what stands from a place on once a digit is stored there
drop_set : (t : List ℕ) (i d : ℕ) → i < length t → drop i (set t i d) ≡ d ∷ drop (i + 1) t
drop_set t i d h =
    ap (drop i) (set_split t i d h) ∙ drop_at (take i t) (d ∷ drop (suc i) t) i (length-take-le i t (le_of_lt h))
    ∙ ap (λ (k : ℕ). d ∷ drop k t) (sym (add-one i))

-- a digit moves from the text that is left to what stands behind it
moved : (x t : List ℕ) (i d : ℕ) → i < length t → x ++ drop i (set t i d) ≡ x ++ d ∷ [] ++ drop (i + 1) t
moved x t i d h = ap (λ (l : List ℕ). x ++ l) (drop_set t i d h) ∙ sym (append_snoc x d (drop (i + 1) t))

-- ---- so many digits in a base

pub digits_next : (b i n : ℕ) (t : List ℕ) → i < length t
    → digits_in b i (n / b) ++ drop i (set t i (hex_digit (n % b))) ≡ digits_in b (i + 1) n ++ drop (i + 1) t
unfolding digits_in
digits_next b i n t h =
    moved (digits_in b i (n / b)) t i (hex_digit (n % b)) h ∙ ap (λ (k : ℕ). digits_in b k n ++ drop (i + 1) t) (sym (add-one i))

pub digits_long : (b k n : ℕ) → length (digits_in b k n) ≡ k
unfolding digits_in
digits_long b zero n = refl
digits_long b (suc k) n = omega (arith, length-append (digits_in b k (n / b)) (hex_digit (n % b) ∷ []), digits_long b k (n / b))

-- in base 16 they are hexadecimal, and in base 10 those of decimals
pub digits_hex : (k n : ℕ) → digits_in 16 k n ≡ hex_from k n
unfolding digits_in hex_from
digits_hex zero n = refl
digits_hex (suc k) n = ap (λ (l : List ℕ). l ++ hex_digit (n % 16) ∷ []) (digits_hex k (n / 16))

below_ten : (n : ℕ) → hex_digit (n % 10) ≡ 48 + n % 10
unfolding hex_digit
below_ten n = let h : n % 10 < 10 = omega arith in rw (lt-ltb (n % 10) 10 h) refl

pub digits_plain : (k n : ℕ) → digits_in 10 k n ≡ digits_from k n
unfolding digits_in digits_from
digits_plain zero n = refl
digits_plain (suc k) n =
    ap (λ (l : List ℕ). l ++ hex_digit (n % 10) ∷ []) (digits_plain k (n / 10)) ∙ ap (λ (d : ℕ). digits_from k (n / 10) ++ d ∷ []) (below_ten n)

-- k digits and the byte behind them, in a text that was that byte throughout
behind : (k end : ℕ) → k ≤ 3 → (r : List ℕ) × (drop k (end ∷ end ∷ end ∷ end ∷ []) ≡ end ∷ r)
behind zero end h = (end ∷ end ∷ end ∷ [], refl)
behind (suc zero) end h = (end ∷ end ∷ [], refl)
behind (suc (suc zero)) end h = (end ∷ [], refl)
behind (suc (suc (suc zero))) end h = ([], refl)
behind (suc (suc (suc (suc k)))) end h = absurd (omega arith)

pub digits_ended : (k n end m : ℕ) (d : List ℕ) → k ≤ 3 → d ≡ digits_in 10 m n → m ≡ k
    → take (k + 1) (d ++ drop k (end ∷ end ∷ end ∷ end ∷ [])) ≡ digits_from k n ++ end ∷ []
digits_ended k n end m d h e q =
    let x = behind k end h in
    let long : k ≡ length d = sym (ap length e ∙ digits_long 10 m n ∙ q) in
    let same : d ≡ digits_from k n = e ∙ ap (λ (j : ℕ). digits_in 10 j n) q ∙ digits_plain k n in
    ap (λ (l : List ℕ). take (k + 1) (d ++ l)) x.1
    ∙ ap (λ (j : ℕ). take (j + 1) (d ++ end ∷ x.0)) long
    ∙ take-append-add d (end ∷ x.0) 1
    ∙ ap (λ (l : List ℕ). l ++ end ∷ []) same

-- ---- decimal

decimal_more : (i n : ℕ) → 10 ≤ n → decimal_from (i + 1) n ≡ decimal_from i (n / 10) ++ (48 + n % 10) ∷ []
unfolding decimal_from
decimal_more i n l = rw add-one (simp (le-ltb n 10 l))

decimal_one : (i n : ℕ) → n < 10 → decimal_from (i + 1) n ≡ (48 + n) ∷ []
unfolding decimal_from
decimal_one i n l = rw add-one (simp (lt-ltb n 10 l))

pub decimal_next : (i n : ℕ) (t : List ℕ) → 10 ≤ n → i < length t
    → decimal_from i (n / 10) ++ drop i (set t i (48 + n % 10)) ≡ decimal_from (i + 1) n ++ drop (i + 1) t
decimal_next i n t l h =
    moved (decimal_from i (n / 10)) t i (48 + n % 10) h ∙ ap (λ (x : List ℕ). x ++ drop (i + 1) t) (sym (decimal_more i n l))

-- the first digit
pub decimal_first : (i n : ℕ) (t : List ℕ) → n < 10 → i < length t → drop i (set t i (48 + n)) ≡ decimal_from (i + 1) n ++ drop (i + 1) t
decimal_first i n t l h = drop_set t i (48 + n) h ∙ ap (λ (x : List ℕ). x ++ drop (i + 1) t) (sym (decimal_one i n l))

-- a number of two digits or more leaves room for another
pub digits_left : (k n : ℕ) → 10 ≤ n → n < 10 ^ k → (2 ≤ k) × (n / 10 < 10 ^ (k - 1))
digits_left zero n l h = absurd (omega arith)
digits_left (suc zero) n l h = absurd (omega arith)
digits_left (suc (suc k)) n l h = let e : suc (suc k) - 1 ≡ suc k = omega arith in (omega arith, rw e (omega (arith, pow-suc 10 (suc k))))
