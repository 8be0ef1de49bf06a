-- Laws on an exponent less the order of a derivative, and on the factors that the order brings. Assumes nothing.
use mathlib.Core.Path.{◌≡◌, ap, sym, ◌∙◌}
use Prim.Native.Nat.{ℕ, suc, ◌+◌, ◌-◌, ◌<◌}
use native.Mathlib.Omega.{arith}
use lib.IntN.{ℤ, pos, neg_ℤ, ◌+ℤ◌, ◌-ℤ◌, +ℤ_idr, +ℤ_assoc, neg_ℤ-+ℤ}
use lib.Ieee.{Float, binary64, of_int}
use Rattle.arith.specs.F64.{◌⊗◌}
use Rattle.terms.specs.Sum.{scaled}

pub lowered_none : (e : ℤ) → e -ℤ pos 0 ≡ e
lowered_none e = +ℤ_idr e

lowered_more : (e : ℤ) (d : ℕ) → e -ℤ pos d -ℤ pos 1 ≡ e -ℤ pos (d + 1)
lowered_more e d = +ℤ_assoc e (neg_ℤ (pos d)) (neg_ℤ (pos 1)) ∙ ap (λ (z : ℤ). e +ℤ z) (sym (neg_ℤ-+ℤ (pos d) (pos 1)))

-- a factor more leaves one order less to go
pub scaled_next : (f : Float) (e : ℤ) (i d : ℕ) {s : Float} → i < d → scaled f (e -ℤ pos i) (d - i) ≡ s → scaled (f ⊗ of_int binary64 (e -ℤ pos i)) (e -ℤ pos (i + 1)) (d - (i + 1)) ≡ s
unfolding scaled
scaled_next f e i d h p = let g : d - i ≡ suc (d - (i + 1)) = omega arith in rw (← lowered_more) (rw g at p)
