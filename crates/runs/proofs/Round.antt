-- The way round 32 places. Assumes nothing.
use mathlib.Core.Path.{◌≡◌, sym, ap, ◌∙◌}
use mathlib.Core.Logic.{◌≢◌}
use Prim.Native.Nat.{ℕ, suc, ◌+◌, ◌-◌, ◌%◌, ◌≤◌, ◌<◌}
use native.Mathlib.Omega.{arith}
use Rattle.runs.specs.Model.{past}

-- how far i lies ahead of the place p
abbrev pub ahead : ℕ → ℕ → ℕ
ahead p i = (i + (32 - p)) % 32

pub ahead_lt : (p i : ℕ) → ahead p i < 32
ahead_lt p i = omega arith

pub ahead_back : (p i : ℕ) → p < 32 → i < 32 → (p + ahead p i) % 32 ≡ i
ahead_back p i h l = omega arith

past_round : (n : ℕ) → past (n % 32) ≡ past n
past_round n = omega arith

ahead_of : (n d : ℕ) → d < 32 → ahead (n % 32) ((n + d) % 32) ≡ d
ahead_of n d h = omega arith

-- d places on from the one just past a place
past_ahead : (n d : ℕ) → d < 32 → ahead (past (n % 32)) ((n + 1 + d) % 32) ≡ d
past_ahead n d h = rw (past_round n) (ahead_of (n + 1) d h)

-- just past a place that is no farther on than i and is not i, the way to i is shorter
pub ahead_next : (p i k : ℕ) → p < 32 → i < 32 → k ≤ ahead p i → i ≢ (p + k) % 32 → suc (ahead (past ((p + k) % 32)) i) ≤ ahead p i
ahead_next p i k hp hi hk d = go (ahead p i) (ahead_lt p i) (sym (ahead_back p i hp hi)) hk
  where
    go : (a : ℕ) → a < 32 → i ≡ (p + a) % 32 → k ≤ a → suc (ahead (past ((p + k) % 32)) i) ≤ a
    go a l e h =
        let ne : a ≢ k = λ q. d (e ∙ ap (λ (x : ℕ). (p + x) % 32) q) in
        let m : p + a ≡ (p + k + 1) + (a - suc k) = omega arith in
        rw (e, m, past_ahead (p + k) (a - suc k) (omega arith)) (omega arith)
