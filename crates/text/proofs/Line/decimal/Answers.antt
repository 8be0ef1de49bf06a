-- `text::Line::decimal` meets its contract. The invariant: the digits left to be written, with what stands behind them, are the whole text (`decimal_next`
-- moves one digit over), and there is a place for each. The measure is how many places are left. Assumes nothing.
use Prim.Native.Nat.{ℕ, ◌+◌, ◌-◌, ◌≤◌}
use mathlib.Core.Path.{◌≡◌, refl, ap, ◌∙◌}
use mathlib.Core.List.{◌++◌}
use native.Mathlib.Omega.{arith}
use lib.ListN.{length, drop, set, length-drop, length-set}
use lib.Seq.{take_all}
use Rattle.text.specs.Texts.{decimal_from, decimal_of}
use Rattle.text.proofs.Digits.{decimal_next, decimal_first, digits_left}
use Rattle.text.proofs.Lines.{said_line}
use Rattle.text.proofs.Line.decimal.Goals as goal

pub loop-left-init : goal.loop-left-init
unfolding decimal_of
loop-left-init c = (omega arith, omega arith, omega arith, refl, refl)

pub loop-left-preserved : goal.loop-left-preserved
loop-left-preserved c =
    let l = c.loop-left in
    let i = l.first - 1 in
    let e : i + 1 ≡ l.first = omega arith in
    let h = digits_left l.first l.left c.loop-left-test.true l.invariant.2 in (
      omega arith,
      omega arith,
      h.1,
      decimal_next i l.left l.text c.loop-left-test.true (omega arith)
          ∙ ap (λ (k : ℕ). decimal_from k l.left ++ drop k l.text) e
          ∙ l.invariant.3,
      simp length-set l.invariant.4,
    )

pub returns : goal.returns
returns c =
    let l = c.loop-left in
    let i = l.first - 1 in
    let s : i + 1 ≡ l.first = omega arith in
    let whole : length (drop i (set l.text i (48 + l.left))) ≤ 21 - i = simp (length-drop, length-set) (omega arith) in
    said_line
    (take_all (21 - i) _ whole
    ∙ decimal_first i l.left l.text c.loop-left-test.false (omega arith)
    ∙ ap (λ (k : ℕ). decimal_from k l.left ++ drop k l.text) s
    ∙ l.invariant.3)
    c.bytes.ensures
