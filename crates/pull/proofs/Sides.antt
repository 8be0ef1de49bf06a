-- A temperature that was pulled is not past the line, and beside it unless T or Ts is NaN; a pull makes no NaN. One that was not past the line is kept as it
-- is, and is out of reach; so is one further past it than 0.025 K. Assumes nothing.
use mathlib.Core.Path.{◌≡◌, refl, sym, ◌∙◌}
use mathlib.Core.Bool.{Bool, true, false, cond, and-false}
use lib.Ieee.{Float, lt, is_nan}
use borrow.Author.Tests.{not-false}
use Rattle.arith.proofs.Order.{lt_le, lt_is_not_le, le_excludes_lt, lt_excludes_le, lt_not_self, le_not_nan}
use Rattle.equations.specs.declared.Phase.{Phase}
use Rattle.equations.specs.declared.Phase.TheVariants.{Liquid, Vapour}
use Rattle.pull.specs.Pull.{is_past, is_beside, past_by, pulled_to, reach, in_reach}

-- ---- on its side

-- Ts is not past itself
pub line_not_past : (phase : Phase) (ts : Float) → is_past phase ts ts ≡ false
line_not_past Liquid ts = lt_not_self ts
line_not_past Vapour ts = lt_not_self ts

pub pulled_not_past : (phase : Phase) (ts t : Float) → is_past phase ts (pulled_to phase ts t) ≡ false
unfolding pulled_to
pulled_not_past phase ts t = go (is_past phase ts t) refl
  where
    go : (b : Bool) → is_past phase ts t ≡ b → is_past phase ts (cond b ts t) ≡ false
    go true past = line_not_past phase ts
    go false beside = beside

pub not_past_is_beside : (phase : Phase) (ts t : Float) → is_nan ts ≡ false → is_nan t ≡ false → is_past phase ts t ≡ false → is_beside phase ts t ≡ true
not_past_is_beside Liquid ts t line value beside = not-false _ (sym (lt_is_not_le t ts value line) ∙ beside)
not_past_is_beside Vapour ts t line value beside = not-false _ (sym (lt_is_not_le ts t line value) ∙ beside)

-- nothing is past a Ts that is NaN, and T stays there: so a T that is no NaN does not become one
past_line_known : (phase : Phase) (ts t : Float) → is_past phase ts t ≡ true → is_nan ts ≡ false
past_line_known Liquid ts t past = (le_not_nan ts t (lt_le ts t past)).0
past_line_known Vapour ts t past = (le_not_nan t ts (lt_le t ts past)).1

pub pulled_not_nan : (phase : Phase) (ts t : Float) → is_nan t ≡ false → is_nan (pulled_to phase ts t) ≡ false
unfolding pulled_to
pulled_not_nan phase ts t value = go (is_past phase ts t) refl
  where
    go : (b : Bool) → is_past phase ts t ≡ b → is_nan (cond b ts t) ≡ false
    go true past = past_line_known phase ts t past
    go false beside = value

-- ---- nothing changes

pub not_past_kept : (phase : Phase) (ts t : Float) → is_past phase ts t ≡ false → pulled_to phase ts t ≡ t
unfolding pulled_to
not_past_kept phase ts t beside = rw beside

pub beside_is_not_past : (phase : Phase) (ts t : Float) → is_beside phase ts t ≡ true → is_past phase ts t ≡ false
beside_is_not_past Liquid ts t h = le_excludes_lt t ts h
beside_is_not_past Vapour ts t h = le_excludes_lt ts t h

-- a temperature that is not past the line, or past it by more than 0.025 K, is out of reach
pub not_past_out_of_reach : (phase : Phase) (ts t : Float) → is_past phase ts t ≡ false → in_reach phase ts t ≡ false
unfolding in_reach
not_past_out_of_reach phase ts t beside = rw beside

pub further_out_of_reach : (phase : Phase) (ts t : Float) → lt reach (past_by phase ts t) ≡ true → in_reach phase ts t ≡ false
unfolding in_reach
further_out_of_reach phase ts t further = rw (lt_excludes_le reach (past_by phase ts t) further) (and-false (is_past phase ts t))
