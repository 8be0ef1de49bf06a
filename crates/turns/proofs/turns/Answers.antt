-- `turns::turns` meets its contract: the turns that are left, from what those before gave, are all of them. Assumes nothing.
use Prim.Native.Nat.{ℕ, ◌-◌, ◌+◌}
use mathlib.Core.Path.{◌≡◌, sym, ap, ◌∙◌}
use native.Mathlib.Omega.{arith}
use Rattle.runs.specs.Model.{turn_of}
use Rattle.runs.specs.declared.Outcome.{Outcome}
use Rattle.turns.specs.declared.Turned.{Turned}
use Rattle.turns.specs.Turns.{after_turn, turned_once, turns_from}
use Rattle.turns.proofs.TurnLaws.{one_turn, halved_more, idle_more}
use Rattle.turns.proofs.turns.Goals as goal

pub loop-preserved : goal.loop-preserved
loop-preserved c =
    let t = c.loop.t in
    let left = c.args.n - c.loop.counter in
    let now = turn_of t.desk in
    let e : c.count-t.result ≡ turned_once t = c.count-t.ensures ∙ ap (λ (o : Outcome). after_turn t o.answer o.desk) c.turn.ensures in
    let fewer : c.args.n - (c.loop.counter + 1) ≡ left - 1 = omega arith in (
      omega (arith, ap (λ (x : Turned). x.halved) e, halved_more t now.answer now.desk),
      omega (arith, ap (λ (x : Turned). x.idle) e, idle_more t now.answer now.desk),
      ap (λ (k : ℕ). turns_from k c.count-t.result) fewer ∙ ap (turns_from (left - 1)) e ∙ sym (one_turn left t (omega arith)) ∙ c.loop.invariant.2,
    )

pub returns : goal.returns
unfolding turns_from
returns c =
    let e : c.args.n - c.loop.counter ≡ 0 = omega arith in
    rw e at c.loop.invariant.2
