-- Little-endian numbers in a list of bytes. Past the end of a list every byte counts as 0. Definitions only.
use Rattle.std.specs.Prelude.{ℕ, ◌+◌, ◌*◌, ◌/◌, ◌%◌, cond, List, [], ◌∷◌, ltb, length, get_or}

-- the u32 that starts at place i
abbrev pub u32_at : List ℕ → ℕ → ℕ
u32_at s i = get_or s i 0 + 256 * get_or s (i + 1) 0 + 65536 * get_or s (i + 2) 0 + 16777216 * get_or s (i + 3) 0

-- the u64 that starts at place i: its low u32 stands first
abbrev pub u64_at : List ℕ → ℕ → ℕ
u64_at s i = u32_at s i + 4294967296 * u32_at s (i + 4)

-- u64 number k, from 0, of a list of them; 0 where the list does not hold the whole of it
unfoldable pub word_of : List ℕ → ℕ → ℕ
word_of s k = cond (ltb k (length s / 8)) (u64_at s (8 * k)) 0

-- the four bytes of a u32
abbrev pub u32_bytes : ℕ → List ℕ
u32_bytes x = x % 256 ∷ x / 256 % 256 ∷ x / 65536 % 256 ∷ x / 16777216 % 256 ∷ []
