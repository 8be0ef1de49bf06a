-- What the proofs of regions 2 and 5 share: γ, h and s from the sums over a region's two tables, at its point and with its shift of τ. Assumes nothing.
use mathlib.Core.Path.{◌≡◌, refl}
use mathlib.Core.List.{List}
use lib.Ieee.{Float}
use Rattle.arith.specs.F64.{◌⊕◌}
use Rattle.terms.specs.Sum.{Term, sum_of}
use Rattle.terms.specs.Six.{six_of}
use Rattle.terms.specs.declared.Six.{Six}
use Rattle.properties.specs.Properties.{enthalpy_of, entropy_of, unrooted_of, rooted_of}
use Rattle.properties.specs.declared.Point.{Point}
use Rattle.properties.specs.declared.State.{State}
use Rattle.vapour.specs.Vapour.{gibbs_of, vapour_of, vapour_at, vapour_unrooted}
use Rattle.vapour.specs.declared.Vapour.{Vapour}

module _ (ideal residual : List Term) (shifted : Float → Float) where
  abbrev state_at : Point → State
  state_at x = rooted_of (vapour_unrooted x (vapour_at ideal residual shifted x))

  pub gamma_from : {r : Vapour} {i s : Six} {x y : Point} → r ≡ vapour_of x.pi i s → s ≡ six_of residual x.pi (shifted x.tau) → i ≡ six_of ideal x.pi x.tau → x ≡ y → r ≡ vapour_at ideal residual shifted y
  gamma_from added residuals ideals point = rw (added, residuals, ideals, point) refl

  -- the state's h takes of γ no more than γτ
  pub h_from : {r i s : Float} {x y : Point} → r ≡ enthalpy_of x (i ⊕ s) → s ≡ sum_of residual 0 1 x.pi (shifted x.tau) → i ≡ sum_of ideal 0 1 x.pi x.tau → x ≡ y → r ≡ (state_at y).h
  unfolding rooted_of vapour_unrooted unrooted_of vapour_of six_of
  h_from enthalpy residuals ideals point = rw (enthalpy, residuals, ideals, point) refl

  -- the state's s takes of γ no more than γ and γτ
  pub s_from : {r g : Float} {i s : Six} {x y : Point} → r ≡ entropy_of x g (i.fb ⊕ s.fb) → g ≡ gibbs_of x.pi i.f s.f → s ≡ six_of residual x.pi (shifted x.tau) → i ≡ six_of ideal x.pi x.tau → x ≡ y → r ≡ (state_at y).s
  unfolding rooted_of vapour_unrooted unrooted_of vapour_of six_of
  s_from entropy gibbs residuals ideals point = rw (entropy, gibbs, residuals, ideals, point) refl
