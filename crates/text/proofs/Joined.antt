-- Texts written one behind the other by a loop: the one law of the loops that write. Assumes nothing.
use Prim.Native.Nat.{ℕ, ◌+◌, ◌≤◌}
use mathlib.Core.Path.{sym, ap}
use mathlib.Core.List.{List}
use native.Mathlib.Nat.{le_antisymm}
use native.Mathlib.Numerals.{add-one}
use Rattle.text.specs.Room.{Written}
use Rattle.text.proofs.Pieces.{none, then, said}
use Rattle.text.specs.Texts.{joined}

-- before the loop
pub begun : (text : ℕ → List ℕ) (o : List ℕ) (at : ℕ) → Written o at (joined text 0) o at
unfolding joined
begun text o at = none o at

-- a turn writes text k
pub turned : (text : ℕ → List ℕ) (k : ℕ) {o o₁ o₂ : List ℕ} {at p q : ℕ} → Written o at (joined text k) o₁ p → Written o₁ p (text k) o₂ q
    → Written o at (joined text (k + 1)) o₂ q
unfolding joined
turned text k x y = said (sym (ap (joined text) (add-one k))) (then x y)

-- behind the loop
pub ended : (text : ℕ → List ℕ) {k n : ℕ} {o o₁ : List ℕ} {at p : ℕ} → k ≤ n → n ≤ k → Written o at (joined text k) o₁ p → Written o at (joined text n) o₁ p
ended text h l x = said (ap (joined text) (le_antisymm h l)) x
