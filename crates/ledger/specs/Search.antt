-- Searching and counting below a bound: the words in which the desk's rules are said. Definitions only.
use Rattle.std.specs.Prelude.{ℕ, zero, suc, ◌+◌, Bool, true, false, cond, ◌&&◌}

-- the least k below n that f accepts, and n where there is none
unfoldable pub least : (ℕ → Bool) → ℕ → ℕ
least f zero = zero
least f (suc n) = cond (f zero) zero (suc (least (λ k. f (suc k)) n))

abbrev pub bit : Bool → ℕ
bit true = 1
bit false = 0

-- how many of the numbers below n f accepts
unfoldable pub count : (ℕ → Bool) → ℕ → ℕ
count f zero = zero
count f (suc n) = bit (f zero) + count (λ k. f (suc k)) n

-- f accepts each number below n
unfoldable pub upto : (ℕ → Bool) → ℕ → Bool
upto f zero = true
upto f (suc n) = f zero && upto (λ k. f (suc k)) n
