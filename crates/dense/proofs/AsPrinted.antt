-- From 273.15 K on the first bracket of a density is that of 02 with the saturation pressure evaluated as printed: no answer turns on where ps(T) stands. Assumes
-- nothing.
use mathlib.Core.Path.{◌≡◌, refl, sym, ap, ◌∙◌}
use mathlib.Core.Bool.{Bool, true, false, not, cond, ◌||◌, true≢false}
use lib.Ieee.{Float, lt, le, is_nan, round}
use Rattle.arith.specs.Printed.{printed}
use Rattle.arith.proofs.Order.{lt_le, le_not_nan, lt_is_not_le}
use Rattle.brackets.specs.declared.Bracket.{Bracket}
use Rattle.saturation_line.specs.Printed.{equation28}
use Rattle.saturation_line.specs.Pressure.{t273, up_to623, above623, ps_of}
use Rattle.saturation_line.specs.declared.SaturationPressure.TheVariants.{UpTo623, Above623}
use Rattle.std.specs.Prelude.{Some, None}
use Rattle.saturation_line.proofs.Told.{on_line, exhaustive}
use Rattle.dense.specs.Region3.{density*, T*}
use Rattle.dense.specs.Density.{least3, most3, reaches3, first3}

critical_number : is_nan T* ≡ false
unfolding printed round is_nan
critical_number = refl

-- from 273.15 K on and below the critical temperature T is on the line
on_line_lem : (t : Float) → le t273 t ≡ true → le T* t ≡ false → on_line t ≡ true
on_line_lem t a b =
    let below : lt t T* ≡ true = lt_is_not_le T* t critical_number (le_not_nan t273 t a).1 ∙ ap not b in
    rw (a, lt_le t T* below) refl

-- and on it p ≥ ps(T) is by what Eq. (28) gives
reached : (p t : Float) → on_line t ≡ true → reaches3 (ps_of t) p ≡ le (equation28 t) p
unfolding ps_of
reached p t h = go (up_to623 t) (above623 t) (exhaustive t ∙ h)
  where
    go : (b w : Bool) → b || w ≡ true → reaches3 (cond b (Some (UpTo623 (equation28 t))) (cond w (Some (Above623 (equation28 t))) None)) p ≡ le (equation28 t) p
    go true w h = refl
    go false true h = refl
    go false false h = absurd (true≢false (sym h))

-- 50 to 800, 322 to 800 or 50 to 322
abbrev pub bracket_by : Bool → Bool → Bracket
bracket_by critical liquid =
    cond critical (record { lo = least3; hi = most3 })
    (cond liquid (record { lo = density*; hi = most3 })
    (record { lo = least3; hi = density* }))

pub first_as_printed : (p t : Float) → le t273 t ≡ true → first3 p t ≡ bracket_by (le T* t) (le (equation28 t) p)
unfolding first3
first_as_printed p t a = go (le T* t) refl
  where
    go : (b : Bool) → le T* t ≡ b → bracket_by b (reaches3 (ps_of t) p) ≡ bracket_by b (le (equation28 t) p)
    go true e = refl
    go false e = ap (bracket_by false) (reached p t (on_line_lem t a e))
