-- `written::behind` meets its contract: what is shorter than two words has nothing behind them. Assumes nothing.
use Prim.Native.Nat.{ℕ, ◌-◌}
use mathlib.Core.Path.{◌≡◌, sym, ap, ◌∙◌}
use native.Mathlib.Omega.{arith}
use lib.ListN.{length, take, drop, length-drop, drop_of_length-le}
use lib.Seq.{take-length}
use Rattle.written.proofs.behind.Goals as goal

pub returns-then-n-lt16 : goal.returns-then-n-lt16
returns-then-n-lt16 c =
    let s = c.args.parts.now in
    let n = length s in
    let none : n - n ≡ 0 = omega arith in
    ap (λ (k : ℕ). take k (drop n s)) none ∙ sym (drop_of_length-le s {i = 16} (omega arith))

pub returns-else-n-lt16 : goal.returns-else-n-lt16
returns-else-n-lt16 c =
    let s = c.args.parts.now in
    ap (λ (n : ℕ). take n (drop 16 s)) (sym (length-drop 16 s)) ∙ take-length (drop 16 s)
