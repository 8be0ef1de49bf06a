-- `records::desks::rows_in` meets its contract: the rows passed are filled in. Assumes nothing.
use mathlib.Core.Path.{refl}
use native.Mathlib.Omega.{arith}
use Rattle.records.specs.Records.{row_in}
use Rattle.records.proofs.Filled.{begun, stored}
use Rattle.records.proofs.desks.rows_in.Goals as goal

pub loop-i-init : goal.loop-i-init
loop-i-init c = begun _ 32 _ refl

pub loop-i-preserved : goal.loop-i-preserved
loop-i-preserved c =
    stored (row_in c.args.rest.now) 32 c.loop-i.i _ _ c.loop-i-test.true c.row_in-r.ensures c.loop-i.invariant
