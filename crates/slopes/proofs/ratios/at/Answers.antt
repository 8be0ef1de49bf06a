-- `slopes::ratios::at` meets its contract: the two determinants are made of each property's changes. Assumes nothing.
use mathlib.Core.Path.{◌≡◌, refl, ap, ◌∙◌}
use Rattle.slopes.specs.Slopes.{number_of, determinant, divides_of, ratio_at}
use Rattle.slopes.proofs.ratios.at.Goals as goal

pub returns-then-divides : goal.returns-then-divides
unfolding ratio_at
returns-then-divides c =
    let s = c.args in
    let below : c.determinant-below.result ≡ determinant s.a (number_of s.x) (number_of s.y) = rw (c.determinant-below.ensures, c.change_of.ensures, c.change_of-held.ensures) refl in
    let judged : c.divides.result ≡ divides_of (determinant s.a (number_of s.x) (number_of s.y)) = c.divides.ensures ∙ ap divides_of below in
    rw (
      ← judged,
      c.if-divides.true,
      below,
      c.determinant-above.ensures,
      c.change_of-then-divides.ensures,
      c.change_of-held.ensures,
    ) refl

pub returns : goal.returns
unfolding ratio_at
returns c =
    let s = c.args in
    let below : c.determinant-below.result ≡ determinant s.a (number_of s.x) (number_of s.y) = rw (c.determinant-below.ensures, c.change_of.ensures, c.change_of-held.ensures) refl in
    let judged : c.divides.result ≡ divides_of (determinant s.a (number_of s.x) (number_of s.y)) = c.divides.ensures ∙ ap divides_of below in
    rw (← judged, c.if-divides.false) refl
