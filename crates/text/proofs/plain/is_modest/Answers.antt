-- `text::plain::is_modest` meets its contract: of the two comparisons one holds by the sign, and the other is the definition's. Assumes nothing.
use mathlib.Core.Path.{◌≡◌, refl, sym, ap, ◌∙◌}
use mathlib.Core.Bool.{true, false, true≢false}
use Prim.Native.Nat.{ℕ, ◌+◌, ◌*◌, ◌^◌}
use native.Mathlib.Nat.{mul-one}
use native.Mathlib.Omega.{arith}
use lib.IntN.{ℤ, pos}
use lib.Dec.{ltb}
use lib.Ieee.{Float, nan, inf, fin, up, down, lt, neg, of_bits}
use lib.Ieee.Fits.{down_pos}
use borrow.Author.Tests.{lt-ltb}
use Rattle.text.specs.Decimals.{modest}
use Rattle.text.proofs.plain.is_modest.Goals as goal

-- m · 2^e against 2^53, as `lt` writes it
plainly : (m : ℕ) (e : ℤ) → ltb (m * up e * 1) (1 * 2 ^ 53 * down e) ≡ ltb (m * up e) (2 ^ 53 * down e)
plainly m e = ap (λ (z : ℕ). ltb z (2 ^ 53 * down e)) (mul-one (m * up e))

-- where it is above -2^53
upper : (x : Float) → lt (fin true 1 (pos 53)) x ≡ true → lt x (fin false 1 (pos 53)) ≡ modest x
unfolding lt modest
upper nan h = refl
upper (inf true) h = absurd (true≢false (sym h))
upper (inf false) h = refl
upper (fin false m e) h = plainly m e
upper (fin true m e) h =
    lt-ltb 0 (m * up e * 1 + 1 * 2 ^ 53 * down e) (omega (arith, down_pos e)) ∙ sym h ∙ plainly m e

-- where it is not
lower : (x : Float) → lt (fin true 1 (pos 53)) x ≡ false → lt (fin true 1 (pos 53)) x ≡ modest x
unfolding lt modest
lower nan h = refl
lower (inf true) h = refl
lower (inf false) h = absurd (true≢false h)
lower (fin true m e) h = plainly m e
lower (fin false m e) h = absurd (true≢false (sym (lt-ltb 0 (1 * 2 ^ 53 * down e + m * up e * 1) (omega (arith, down_pos e))) ∙ h))

pub returns-then-x : goal.returns-then-x
unfolding of_bits neg
returns-then-x c = upper c.args.x c.if-x.true

pub returns-else-x : goal.returns-else-x
unfolding of_bits neg
returns-else-x c = lower c.args.x c.if-x.false
