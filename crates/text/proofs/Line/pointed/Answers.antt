-- `text::Line::pointed` meets its contract: the whole part and the point, and behind them the last k digits. Assumes nothing.
use mathlib.Core.Path.{◌≡◌, refl, sym, ap, ◌∙◌, subst}
use mathlib.Core.List.{[], ◌∷◌, ◌++◌, append_assoc}
use Prim.Native.Nat.{ℕ, zero, suc, ◌/◌, ◌^◌, ◌<◌}
use native.Mathlib.Nat.{pow-le-pow_right}
use native.Mathlib.Omega.{arith}
use Rattle.text.specs.Texts.{decimal_of}
use Rattle.text.specs.Decimals.{digits_from, pointed_of}
use Rattle.text.proofs.Lines.{then_line, said_line}
use Rattle.text.proofs.Line.pointed.Goals as goal

no-point : (k n end : ℕ) → k ≡ 0 → decimal_of n ++ end ∷ [] ≡ pointed_of k n ++ end ∷ []
unfolding pointed_of
no-point k n end e = ap (λ (i : ℕ). pointed_of i n ++ end ∷ []) (sym e)

with-point : (k n scale end : ℕ) → (k ≡ 0 → ⊥) → scale ≡ 10 ^ k → (decimal_of (n / scale) ++ 46 ∷ []) ++ (digits_from k n ++ end ∷ []) ≡ pointed_of k n ++ end ∷ []
unfolding pointed_of
with-point zero n scale end h e = absurd (h refl)
with-point (suc k) n scale end h e =
    ap (λ (s : ℕ). (decimal_of (n / s) ++ 46 ∷ []) ++ (digits_from (suc k) n ++ end ∷ [])) e ∙ simp append_assoc

pub returns-then-k-eq0 : goal.returns-then-k-eq0
returns-then-k-eq0 c =
    let a = c.args in
    said_line (no-point a.k a.n a.end (omega arith)) c.decimal.ensures

pub nonzero_div-n : goal.nonzero_div-n
nonzero_div-n c =
    subst (λ (s : ℕ). 0 < s) (sym c.power_of_ten.ensures)
    (pow-le-pow_right {n = 10} (omega arith) {i = 0} {j = c.args.k} (omega arith))

pub returns-else-k-eq0 : goal.returns-else-k-eq0
returns-else-k-eq0 c =
    let a = c.args in
    said_line (with-point a.k a.n _ a.end c.if-k-eq0.false c.power_of_ten.ensures) (then_line c.decimal-else-k-eq0.ensures c.last_digits.ensures)
