-- `text::fill_digits` meets its contract. The invariant: the digits left to be written, with those that stand behind them, are all of them (`digits_next` moves
-- one digit over). At the end none is left. Assumes nothing.
use Prim.Native.Nat.{ℕ, ◌+◌, ◌-◌, ◌/◌}
use mathlib.Core.Path.{◌≡◌, ap, ◌∙◌}
use mathlib.Core.List.{◌++◌}
use native.Mathlib.Omega.{arith}
use lib.ListN.{drop, set}
use Rattle.text.specs.Texts.{digits_in}
use Rattle.text.proofs.Digits.{digits_next}
use Rattle.text.proofs.fill_digits.Goals as goal

pub loop-i-preserved : goal.loop-i-preserved
loop-i-preserved c =
    let l = c.loop-i in
    let b = c.args.base in
    let i = l.i - 1 in
    let e : i + 1 ≡ l.i = omega arith in
    ap (λ (d : ℕ). digits_in b i (l.left / b) ++ drop i (set l.text i d)) c.hex_digit.ensures
    ∙ digits_next b i l.left l.text (omega arith)
    ∙ ap (λ (k : ℕ). digits_in b k l.left ++ drop k l.text) e
    ∙ l.invariant

pub returns : goal.returns
unfolding digits_in
returns c =
    let l = c.loop-i in
    let z : 0 ≡ l.i = omega arith in
    ap (λ (k : ℕ). digits_in c.args.base k l.left ++ drop k l.text) z ∙ l.invariant
