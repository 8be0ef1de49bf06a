-- `records::desks::counts_in` meets its contract: the counts passed are filled in. Assumes nothing.
use mathlib.Core.Path.{refl}
use native.Mathlib.Omega.{arith}
use Rattle.records.specs.Records.{count_in}
use Rattle.records.proofs.Filled.{begun, stored}
use Rattle.records.proofs.desks.counts_in.Goals as goal

pub loop-c-init : goal.loop-c-init
loop-c-init c = begun _ 8 _ refl

pub loop-c-preserved : goal.loop-c-preserved
loop-c-preserved c =
    stored (count_in c.args.rest.now) 8 c.loop-c.c _ _ c.loop-c-test.true c.word.ensures c.loop-c.invariant
