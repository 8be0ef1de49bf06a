-- How the comparisons of f64 go together, for all values: infinities, zeros of either sign and NaN included. What is below is at most, what is at most is not
-- above, what is below is not at least, and nothing is below itself. Of two values that are no NaN, `<` one way round is the negation of `<=` the other way round,
-- so one of the two holds. Where `<=` holds, neither side is NaN, and it is transitive. Assumes nothing.
use mathlib.Core.Path.{◌≡◌, refl, sym, ap, ◌∙◌}
use mathlib.Core.Bool.{Bool, true, false, not, ◌&&◌, ◌||◌, cond, true≢false, false≢true, and-false, or-not_self, not-not}
use Prim.Native.Nat.{ℕ, zero, suc, ◌+◌, ◌*◌, ◌≤◌, ◌<◌}
use native.Mathlib.Nat.{add-zero, zero-add, add_comm, add-mul, zero-mul, mul_right_comm, add-le-add, mul-le-mul_right, le_of_mul-le-mul_right}
use native.Mathlib.Omega.{arith}
use lib.Dec.{ltb, eqb, eqb-zero-suc, eqb-suc-zero}
use lib.Ieee.{Float, nan, inf, fin, up, down, below, level, lt, le, is_nan}
use lib.Ieee.Fits.{down_pos}
use borrow.Author.Tests.{ltb-true, ltb-false, eqb-true, eqb-false, lt-ltb, le-ltb, ne_eqb, not-false}

-- ---- sizes

-- below, equal and above: one of the three tests passes
one_of_three : (x y : ℕ) (P : Bool → Bool → Bool → Type 0) → P true false false → P false true false → P false false true → P (ltb x y) (eqb x y) (ltb y x)
one_of_three x y P less same more = go (ltb x y) (eqb x y) refl refl
  where
    go : (l e : Bool) → ltb x y ≡ l → eqb x y ≡ e → P (ltb x y) (eqb x y) (ltb y x)
    go true e p q = let h = ltb-true x y p in rw (p, ne_eqb x y (omega arith), le-ltb y x (omega arith)) less
    go false true p q = rw (p, q, le-ltb y x (omega (arith, eqb-true x y q))) same
    go false false p q = rw (p, q, lt-ltb y x (omega (arith, ltb-false x y p, eqb-false x y q))) more

-- numbers of unlike signs are equal where both are zero
both_zero : (x y : ℕ) → eqb x y && eqb x 0 ≡ not (ltb 0 (x + y))
both_zero zero zero = refl
both_zero zero (suc y) = rw (eqb-zero-suc y, lt-ltb 0 (0 + suc y) (omega arith))
both_zero (suc x) y = rw (eqb-suc-zero x, and-false (eqb (suc x) y), lt-ltb 0 (suc x + y) (omega arith))

-- ---- sizes with a sign

-- ±y < ±x where not ±x ≤ ±y
below_is_not_up_to : (s : Bool) (x : ℕ) (t : Bool) (y : ℕ) → below t y s x ≡ not (below s x t y || level s x t y)
below_is_not_up_to false x false y = one_of_three x y (λ l e g. g ≡ not (l || e && true)) refl refl refl
below_is_not_up_to false x true y = rw (both_zero x y, not-not (ltb 0 (x + y)), add_comm x y)
below_is_not_up_to true x false y = rw (both_zero x y, or-not_self (ltb 0 (x + y)))
below_is_not_up_to true x true y = one_of_three x y (λ l e g. l ≡ not (g || e && true)) refl refl refl

-- ±m as a credit or a debt of m
abbrev credit : Bool → ℕ → ℕ
credit s m = cond s 0 m

abbrev debt : Bool → ℕ → ℕ
debt s m = cond s m 0

-- ±m / a < ±n / b, each debt put as a credit on the other side: an order of two sums, and no cases of signs are left
below_is : (s : Bool) (m a : ℕ) (t : Bool) (n b : ℕ) → below s (m * b) t (n * a) ≡ ltb (credit s m * b + debt t n * a) (credit t n * a + debt s m * b)
below_is false m a false n b = simp (zero-mul, add-zero)
below_is false m a true n b = sym (le-ltb (m * b + n * a) (0 * a + 0 * b) (omega arith))
below_is true m a false n b = rw (zero-mul a, zero-mul b, add_comm (m * b) (n * a))
below_is true m a true n b = simp (zero-mul, zero-add)

-- three such fractions: (p - p') / a ≤ (q - q') / b ≤ (r - r') / c
across : (p p' a q q' b r r' c : ℕ) → 0 < b → p * b + q' * a ≤ q * a + p' * b → q * c + r' * b ≤ r * b + q' * c → p * c + r' * a ≤ r * a + p' * c
across p p' a q q' b r r' c B h k =
    let both = simp (add-mul, mul_right_comm) at (add-le-add (mul-le-mul_right c h) (mul-le-mul_right a k)) in
    le_of_mul-le-mul_right (simp (add-mul, mul_right_comm) (omega arith)) B

not_below_trans : (s : Bool) (m a : ℕ) (t : Bool) (n b : ℕ) (u : Bool) (o c : ℕ) → 0 < b
    → below t (n * a) s (m * b) ≡ false → below u (o * b) t (n * c) ≡ false → below u (o * a) s (m * c) ≡ false
not_below_trans s m a t n b u o c B h k =
    below_is u o c s m a
    ∙ le-ltb _ _ (across (credit s m) (debt s m) a (credit t n) (debt t n) b (credit u o) (debt u o) c B
    (ltb-false _ _ (sym (below_is t n b s m a) ∙ h)) (ltb-false _ _ (sym (below_is u o c t n b) ∙ k)))

-- ---- `<` and `<=`

pub lt_le : (x y : Float) → lt x y ≡ true → le x y ≡ true
unfolding le
lt_le x y h = rw h

pub lt_is_not_le : (x y : Float) → is_nan x ≡ false → is_nan y ≡ false → lt y x ≡ not (le x y)
unfolding le is_nan
lt_is_not_le nan y p q = absurd (true≢false p)
lt_is_not_le (inf true) nan p q = absurd (true≢false q)
lt_is_not_le (inf true) (inf true) p q = refl
lt_is_not_le (inf true) (inf false) p q = refl
lt_is_not_le (inf true) (fin t n d) p q = refl
lt_is_not_le (inf false) nan p q = absurd (true≢false q)
lt_is_not_le (inf false) (inf true) p q = refl
lt_is_not_le (inf false) (inf false) p q = refl
lt_is_not_le (inf false) (fin t n d) p q = refl
lt_is_not_le (fin s m e) nan p q = absurd (true≢false q)
lt_is_not_le (fin s m e) (inf true) p q = refl
lt_is_not_le (fin s m e) (inf false) p q = refl
lt_is_not_le (fin s m e) (fin t n d) p q = below_is_not_up_to s (m * up e * down d) t (n * up d * down e)

pub le_or_lt : (x y : Float) → is_nan x ≡ false → is_nan y ≡ false → le x y || lt y x ≡ true
le_or_lt x y p q = rw (lt_is_not_le x y p q) (or-not_self (le x y))

pub le_not_nan : (x y : Float) → le x y ≡ true → (is_nan x ≡ false) × (is_nan y ≡ false)
unfolding le is_nan
le_not_nan nan y h = absurd (false≢true h)
le_not_nan (inf s) nan h = absurd (false≢true h)
le_not_nan (inf s) (inf t) h = (refl, refl)
le_not_nan (inf s) (fin t n d) h = (refl, refl)
le_not_nan (fin s m e) nan h = absurd (false≢true h)
le_not_nan (fin s m e) (inf t) h = (refl, refl)
le_not_nan (fin s m e) (fin t n d) h = (refl, refl)

pub le_excludes_lt : (x y : Float) → le x y ≡ true → lt y x ≡ false
le_excludes_lt x y h =
    let w = le_not_nan x y h in
    lt_is_not_le x y w.0 w.1 ∙ ap not h

pub lt_excludes_le : (x y : Float) → lt x y ≡ true → le y x ≡ false
lt_excludes_le x y h = go (le y x) refl
  where
    go : (b : Bool) → le y x ≡ b → b ≡ false
    go true k = absurd (false≢true (sym (le_excludes_lt y x k) ∙ h))
    go false k = refl

pub lt_not_self : (x : Float) → lt x x ≡ false
lt_not_self x = go (lt x x) refl
  where
    go : (b : Bool) → lt x x ≡ b → b ≡ false
    go true h = sym h ∙ le_excludes_lt x x (lt_le x x h)
    go false h = refl

-- ---- `<=` is transitive

-- minus infinity is at most whatever is no NaN
bottom : (z : Float) → is_nan z ≡ false → le (inf true) z ≡ true
unfolding le is_nan
bottom nan p = absurd (true≢false p)
bottom (inf true) p = refl
bottom (inf false) p = refl
bottom (fin u o c) p = refl

-- plus infinity is at most itself alone
top : (z : Float) → le (inf false) z ≡ true → z ≡ inf false
unfolding le
top nan h = absurd (false≢true h)
top (inf true) h = absurd (false≢true h)
top (inf false) h = refl
top (fin u o c) h = absurd (false≢true h)

pub le_trans : (x y z : Float) → le x y ≡ true → le y z ≡ true → le x z ≡ true
unfolding le is_nan
le_trans nan y z h k = absurd (false≢true h)
le_trans (inf true) y z h k = bottom z (le_not_nan y z k).1
le_trans (inf false) y z h k = rw (top y h) at k
le_trans (fin s m e) nan z h k = absurd (false≢true h)
le_trans (fin s m e) (inf true) z h k = absurd (false≢true h)
le_trans (fin s m e) (inf false) z h k = rw (top z k)
le_trans (fin s m e) (fin t n d) nan h k = absurd (false≢true k)
le_trans (fin s m e) (fin t n d) (inf true) h k = absurd (false≢true k)
le_trans (fin s m e) (fin t n d) (inf false) h k = refl
le_trans (fin s m e) (fin t n d) (fin u o c) h k =
    not-false _
    (sym (lt_is_not_le (fin s m e) (fin u o c) refl refl)
    ∙ not_below_trans s (m * up e) (down e) t (n * up d) (down d) u (o * up c) (down c) (down_pos d)
    (le_excludes_lt (fin s m e) (fin t n d) h) (le_excludes_lt (fin t n d) (fin u o c) k))
