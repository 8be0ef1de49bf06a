-- What the one pass over the rows asks of the tickets that it has noted: those of caller c are at c, c + 8, c + 16 and c + 24. Definitions only.
use Rattle.std.specs.Prelude.{ℕ, ◌+◌, ◌*◌, Bool, List, ltb, eqb, get_or}
use Rattle.ledger.specs.Search.{count}

-- how many of a caller's first three places hold t
unfoldable pub often : ℕ → List ℕ → ℕ → ℕ
often t l c = count (λ k. eqb (get_or l (c + 8 * k) 0) t) 3

-- one of them does
unfoldable pub among : ℕ → List ℕ → ℕ → Bool
among t l c = ltb 0 (often t l c)
