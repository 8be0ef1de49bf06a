-- Numbers and their bytes: past the end of a list, in a part of one, behind another, and from bytes to number and back. Assumes nothing.
use mathlib.Core.Path.{◌≡◌, refl, sym, ap, ◌∙◌}
use mathlib.Core.List.{List, [], ◌∷◌, ◌++◌}
use Prim.Native.Nat.{ℕ, ◌+◌, ◌*◌, ◌/◌, ◌%◌, ◌≤◌, ◌<◌}
use native.Mathlib.Nat.{add-zero, add_assoc, mod-eq_of_lt, div-div-eq-div-mul, le_of_suc-le-suc, not-suc-le-zero}
use native.Mathlib.Omega.{arith}
use lib.ListN.{length, take, drop, get_or, length-drop, get_or-eq_default}
use lib.Seq.{get_or-append-add, get_or-take, get_or-drop, drop-drop}
use Rattle.words.specs.Words.{u32_at, u64_at, u32_bytes}

-- ---- past the end

pub byte_past : (s : List ℕ) (i : ℕ) → length s ≤ i → get_or s i 0 ≡ 0
byte_past s i h = get_or-eq_default s 0 h

pub u32_past : (s : List ℕ) (i : ℕ) → length s ≤ i → u32_at s i ≡ 0
u32_past s i h = rw (byte_past s i h, byte_past s (i + 1) (omega arith), byte_past s (i + 2) (omega arith), byte_past s (i + 3) (omega arith)) refl

pub u64_past : (s : List ℕ) (i : ℕ) → length s ≤ i → u64_at s i ≡ 0
u64_past s i h = rw (u32_past s i h, u32_past s (i + 4) (omega arith)) refl

-- ---- in a part

byte_part : (s : List ℕ) (f m i : ℕ) → i < m → get_or (take m (drop f s)) i 0 ≡ get_or s (f + i) 0
byte_part s f m i h = get_or-take m (drop f s) i 0 h ∙ get_or-drop f s i 0

u32_part : (s : List ℕ) (f m i : ℕ) → i + 4 ≤ m → u32_at (take m (drop f s)) i ≡ u32_at s (f + i)
u32_part s f m i h =
    sum4 _ _ _ _ _ _ _ _ (byte_part s f m i (omega arith)) (far 1 (omega arith)) (far 2 (omega arith)) (far 3 (omega arith))
  where
    far : (j : ℕ) → i + j < m → get_or (take m (drop f s)) (i + j) 0 ≡ get_or s (f + i + j) 0
    far j l = byte_part s f m (i + j) l ∙ ap (λ (k : ℕ). get_or s k 0) (sym (add_assoc f i j))

    sum4 : (a b c d a' b' c' d' : ℕ) → a ≡ a' → b ≡ b' → c ≡ c' → d ≡ d'
        → a + 256 * b + 65536 * c + 16777216 * d ≡ a' + 256 * b' + 65536 * c' + 16777216 * d'
    sum4 a b c d a' b' c' d' p q r u = omega arith

-- the u64 at place i of a part is that at place f + i of the whole
pub u64_part : (s : List ℕ) (f m i : ℕ) → i + 8 ≤ m → u64_at (take m (drop f s)) i ≡ u64_at s (f + i)
u64_part s f m i h =
    sum2 _ _ _ _ (u32_part s f m i (omega arith)) (u32_part s f m (i + 4) (omega arith) ∙ ap (u32_at s) (sym (add_assoc f i 4)))
  where
    sum2 : (a b a' b' : ℕ) → a ≡ a' → b ≡ b' → a + 4294967296 * b ≡ a' + 4294967296 * b'
    sum2 a b a' b' p q = omega arith

-- ---- from a number to its bytes and back

-- behind another list
pub u32_behind : (p w : List ℕ) (k : ℕ) → u32_at (p ++ w) (length p + k) ≡ u32_at w k
u32_behind p w k = simp (add_assoc, get_or-append-add)

-- the bytes of a u32 make up that u32
pub u32_of_bytes : (x : ℕ) → x < 4294967296 → u32_at (u32_bytes x) 0 ≡ x
u32_of_bytes x h =
    let a : x / 16777216 < 256 = omega arith in
    let m : x / 16777216 % 256 ≡ x / 16777216 = mod-eq_of_lt a in
    omega (arith, div-div-eq-div-mul x 256 256, div-div-eq-div-mul x 65536 256)

-- ---- from bytes to their number and back

-- every element is a byte
abbrev pub Bytes : List ℕ → Type 0
Bytes s = (i : ℕ) → get_or s i 0 < 256

digits4 : (x y z u : ℕ) → x < 256 → y < 256 → z < 256 → u < 256 → (let n = x + 256 * y + 65536 * z + 16777216 * u in
    (x ≡ n % 256) × (y ≡ n / 256 % 256) × (z ≡ n / 65536 % 256) × (u ≡ n / 16777216 % 256))
digits4 x y z u hx hy hz hu = (omega arith, omega arith, omega arith, omega arith)

four : (w : List ℕ) → 4 ≤ length w → Bytes w → w ≡ u32_bytes (u32_at w 0) ++ drop 4 w
four [] h b = absurd (not-suc-le-zero h)
four (x ∷ []) h b = absurd (not-suc-le-zero (le_of_suc-le-suc h))
four (x ∷ y ∷ []) h b = absurd (not-suc-le-zero (le_of_suc-le-suc (le_of_suc-le-suc h)))
four (x ∷ y ∷ z ∷ []) h b = absurd (not-suc-le-zero (le_of_suc-le-suc (le_of_suc-le-suc (le_of_suc-le-suc h))))
four (x ∷ y ∷ z ∷ u ∷ r) h b = let e = digits4 x y z u (b 0) (b 1) (b 2) (b 3) in cons4 x y z u _ _ _ _ r e.0 e.1 e.2 e.3
  where
    cons4 : (x y z u x' y' z' u' : ℕ) (r : List ℕ) → x ≡ x' → y ≡ y' → z ≡ z' → u ≡ u' → ◌≡◌ {A = List ℕ} (x ∷ y ∷ z ∷ u ∷ r) (x' ∷ y' ∷ z' ∷ u' ∷ r)
    cons4 x y z u x' y' z' u' r a b c d = cc

-- four bytes are those of their u32
pub u32_bytes_at : (s : List ℕ) (t : ℕ) → t + 4 ≤ length s → Bytes s → drop t s ≡ u32_bytes (u32_at s t) ++ drop (t + 4) s
u32_bytes_at s t h b =
    four (drop t s) (simp length-drop (omega arith)) (λ i. rw get_or-drop (b (t + i)))
    ∙ ap (λ (x : ℕ). u32_bytes x ++ drop 4 (drop t s)) (simp (get_or-drop, add-zero))
    ∙ ap (λ (l : List ℕ). u32_bytes (u32_at s t) ++ l) (drop-drop 4 t s)
