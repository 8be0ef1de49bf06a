-- What a bracket encloses: each halving moves one end to where the test was made, to the side that it says. Assumes nothing.
use mathlib.Core.Path.{◌≡◌, refl, ◌∙◌, ap}
use mathlib.Core.Logic.{◌⊎◌, inl, inr}
use mathlib.Core.Bool.{Bool, true, false}
use Prim.Native.Nat.{ℕ, zero, suc}
use lib.Ieee.{Float}
use Rattle.brackets.specs.Brackets.{times}
use Rattle.brackets.specs.declared.Bracket.{Bracket}
use Rattle.settle.proofs.Ends.{halved_ends}
use Rattle.runs.specs.Model.{Query, halve}
use Rattle.runs.specs.Runs.{below, Encloses}

module _ (q : Query) (first : Bracket) where
  -- an end that stays where it was is what it was
  stays : (start was t : Float) (said : Bool) → (was ≡ start) ⊎ (below q was ≡ said) → (t ≡ was) ⊎ (below q t ≡ said) → (t ≡ start) ⊎ (below q t ≡ said)
  stays start was t said o (inr w) = inr w
  stays start was t said (inl e) (inl s) = inl (s ∙ e)
  stays start was t said (inr w) (inl s) = inr (ap (λ (x : Float). below q x) s ∙ w)

  encloses_half : (b : Bracket) → Encloses q first b → Encloses q first (halve q b)
  encloses_half b e =
      let ends = halved_ends q.kind q.phase q.p q.y b.lo b.hi (halve q b) refl in
      record { low = stays first.lo b.lo _ true e.low ends.0; high = stays first.hi b.hi _ false e.high ends.1 }

  pub encloses : (n : ℕ) → Encloses q first (times (halve q) n first)
  unfolding times
  encloses zero = record { low = inl refl; high = inl refl }
  encloses (suc n) = encloses_half (times (halve q) n first) (encloses n)
