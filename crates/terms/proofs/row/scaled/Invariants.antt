-- `terms::row::scaled` meets its contract: the factors still to come, put to the product so far, give the whole product. Assumes nothing.
use Prim.Native.Nat.{◌-◌}
use mathlib.Core.Path.{◌≡◌}
use lib.IntN.{pos, ◌-ℤ◌}
use Rattle.terms.specs.Sum.{scaled}
use Rattle.terms.proofs.row.scaled.Given as goal

abbrev pub invariant-loop-k : goal.invariant-loop-k
invariant-loop-k l = scaled l.f (l.e -ℤ pos l.k) (l.d - l.k) ≡ scaled l.n l.e l.d
