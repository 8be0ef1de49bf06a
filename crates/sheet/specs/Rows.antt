-- The rows of a sheet, 24 bytes each: a kind, and the bits of two values. Definitions only.
use Rattle.std.specs.Prelude.{ℕ, zero, suc, ◌+◌, ◌-◌, ◌*◌, ◌/◌, Bool, true, ◌&&◌, cond, List, length, ltb, leb}
use Rattle.words.specs.Words.{u64_at}
use Rattle.sheet.specs.declared.rows.Point.{Point}

-- (p,T), (p,h), (p,s), (h,s)
unfoldable pub kind_known : ℕ → Bool
kind_known kind = leb 1 kind && leb kind 4

-- the first n rows each have a kind from 1 to 4
unfoldable pub kinds_known : ℕ → List ℕ → Bool
kinds_known zero rows = true
kinds_known (suc n) rows = kinds_known n rows && kind_known (u64_at rows (24 * n))

-- the row that starts at place at
abbrev pub row_at : List ℕ → ℕ → Point
row_at s at = record { kind = u64_at s at; first = u64_at s (at + 8); second = u64_at s (at + 16) }

-- row k, from 0, of the rows that start at a place of s; zeros, which are no kind, where s does not hold the whole of it
unfoldable pub row_of : List ℕ → ℕ → ℕ → Point
row_of s start k = cond (ltb k ((length s - start) / 24)) (row_at s (start + 24 * k)) (record { kind = 0; first = 0; second = 0 })
