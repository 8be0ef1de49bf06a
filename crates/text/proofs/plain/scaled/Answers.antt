-- `text::plain::scaled` meets its contract: the bits' fields give x as digits / unit (`bits_high`), or so small that 0 is nearest (`bits_low`).
-- Assumes nothing.
use mathlib.Core.Path.{◌≡◌, sym, ap, ◌∙◌}
use Prim.Native.Nat.{ℕ, ◌+◌, ◌-◌, ◌*◌, ◌/◌, ◌%◌, ◌^◌, ◌<◌}
use native.Mathlib.Omega.{arith}
use Rattle.text.specs.Decimals.{nearest_of}
use Rattle.text.proofs.Rounding.{halved, bits_high, bits_low, shifted}
use Rattle.text.proofs.plain.scaled.Goals as goal

-- what the code works out, with the shift as the machine has it
worked : (d s j : ℕ) → j < 64 → (d * s + (1 * 2 ^ j) % 2 ^ 64 / 2) / ((1 * 2 ^ j) % 2 ^ 64) ≡ nearest_of (d * s) (2 ^ j)
worked d s j h = ap (λ (u : ℕ). (d * s + u / 2) / u) (shifted j h) ∙ halved (d * s) j

pub returns-then-exponent-lt1012 : goal.returns-then-exponent-lt1012
returns-then-exponent-lt1012 c = sym (bits_low c.args.bits c.args.scale c.if-exponent-lt1012.true (omega arith))

pub returns : goal.returns
returns c =
    let a = c.args in
    let e = a.bits % 2 ^ 63 / 2 ^ 52 in
    worked (2 ^ 52 + a.bits % 2 ^ 52) a.scale (1075 - e) (omega arith) ∙ sym (bits_high a.bits a.scale (omega arith) (omega arith))
