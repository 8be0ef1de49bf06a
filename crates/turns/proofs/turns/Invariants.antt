-- `turns::turns` meets its contract: the turns that are left, from what those before gave, are all of them. Assumes nothing.
use Prim.Native.Nat.{◌-◌, ◌≤◌}
use mathlib.Core.Path.{◌≡◌}
use Rattle.turns.specs.Turns.{turns_from}
use Rattle.turns.proofs.turns.Given as goal

abbrev pub invariant-loop : goal.invariant-loop
invariant-loop l = (l.t.halved ≤ l.counter) × (l.t.idle ≤ l.counter) × (turns_from (l.n - l.counter) l.t ≡ turns_from l.n l.initial.t)
