-- What the desk may know of a halving (`halved_ends`): it moves one end of the bracket to where the test was made, lo where y there is below the y asked and hi
-- where it is not, and leaves the other. Assumes nothing.
use mathlib.Core.Path.{◌≡◌, refl}
use mathlib.Core.Logic.{◌⊎◌, inl, inr}
use mathlib.Core.Bool.{Bool, true, false}
use Prim.Native.Nat.{ℕ}
use lib.Ieee.{Float}
use Rattle.brackets.specs.Brackets.{middle_of, half_of}
use Rattle.brackets.specs.declared.Bracket.{Bracket}
use Rattle.equations.specs.declared.Phase.{Phase}
use Rattle.settle.specs.Settle.{below_of, halved_of}

module _ (kind : ℕ) (phase : Phase) (p y lo hi : Float) where
  -- an end stays, or the test at it said this
  abbrev End : Float → Bool → Float → Type 0
  End was said t = (t ≡ was) ⊎ (below_of kind phase p y t ≡ said)

  pub halved_ends : (b : Bracket) → b ≡ halved_of kind phase p y lo hi → End lo true b.lo × End hi false b.hi
  unfolding halved_of half_of
  halved_ends b e = rw e (go (below_of kind phase p y (middle_of lo hi)) refl)
    where
      go : (said : Bool) → below_of kind phase p y (middle_of lo hi) ≡ said → End lo true (half_of lo hi said).lo × End hi false (half_of lo hi said).hi
      go true w = (inr w, inl refl)
      go false w = (inl refl, inr w)
