-- The lists of a desk: the row that the code reads is the model's, and so are the rows that it counts. Assumes nothing.
use Prim.Native.Nat.{ℕ, zero, suc, ◌+◌, ◌*◌, ◌<◌}
use mathlib.Core.Path.{◌≡◌, refl, ap, ◌∙◌}
use mathlib.Core.Bool.{Bool, true, false, cond}
use mathlib.Core.List.{List, [], ◌∷◌}
use native.Mathlib.Omega.{arith}
use lib.ListN.{length, get_or, replicate}
use mir.Syntax.{w64}
use mir.Val.{Val, Fits}
use denote.Laws.{Is}
use denote.Struct.Declared.{row as owned}
use Rattle.ledger.specs.contracts.Desk as DeskT
use Rattle.ledger.specs.declared.Row.{Row}
use Rattle.ledger.specs.declared.Desk.{Desk}
use Rattle.std.proofs.lemmas.List.Sums.{sum_by-cons}
use Rattle.std.specs.List.{count_by}
use Rattle.ledger.specs.Search.{bit, count}
use Rattle.ledger.specs.Rows.{blank, row, tally}

-- a list of noughts
pub noughts : (n c : ℕ) → get_or {A = ℕ} (replicate n 0) c 0 ≡ 0
noughts zero c = refl
noughts (suc n) zero = refl
noughts (suc n) (suc c) = noughts n c

-- what lies at a place within a list does not go by the value for places past its end
any : {A : Type 0} (l : List A) (i : ℕ) (a b : A) → i < length l → get_or l i a ≡ get_or l i b
any [] i a b h = absurd (omega arith)
any (x ∷ xs) zero a b h = refl
any (x ∷ xs) (suc i) a b h = any xs i a b (omega arith)

-- how many items of a list pass a test, counted by their places
counted : {A : Type 0} (f : A → Bool) (l : List A) (x : A) → count_by f l ≡ count (λ i. f (get_or l i x)) (length l)
unfolding count
counted f [] x = refl
counted f (y ∷ ys) x = sum_by-cons (λ z. cond (f z) 1 0) y ys ∙ sums (f y) (counted f ys x)
  where
    sums : {m n : ℕ} (b : Bool) → m ≡ n → cond b 1 0 + m ≡ bit b + n
    sums true e = omega arith
    sums false e = omega arith

-- the bytes before a row, 88 to each, and before a count, 8 to each
pub row_fits : (i : ℕ) → i < 32 → Fits w64 (i * 88)
row_fits i h = omega arith

pub count_fits : (c : ℕ) → c < 8 → Fits w64 (c * 8)
count_fits c h = omega arith

module _ (d : Desk) (long : length d.rows ≡ 32) where
  pub row_read : (i : ℕ) (r : Row) → i < 32 → row d i ≡ get_or d.rows i r
  unfolding row
  row_read i r h = any d.rows i blank r (omega arith)

  -- a test of the row that the code reads is one of the model's
  pub read : (f : Row → Bool) (b : Bool) (i : ℕ) (r : Row) → i < 32 → f (get_or d.rows i r) ≡ b → f (row d i) ≡ b
  read f b i r h e = ap f (row_read i r h) ∙ e

  -- how many of the rows pass a test
  pub rows_counted : (f : Row → Bool) → count_by f d.rows ≡ tally f d
  unfolding tally row
  rows_counted f = counted f d.rows blank ∙ ap (count (λ i. f (get_or d.rows i blank))) long

-- an owned desk has 32 rows
pub row_is : (d : Desk) (vs : List Val) → Is (owned DeskT.the_type) d vs → (i : ℕ) (r : Row) → i < 32 → row d i ≡ get_or d.rows i r
row_is d vs own = row_read d own.1.1.0.1.0.1
