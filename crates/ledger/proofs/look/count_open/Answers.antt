-- `ledger::look::count_open` meets its contract: the test of each row is that of the definition. Assumes nothing.
use Rattle.std.proofs.Common.{arith, length, rules, ◌≡◌, ◌∙◌}
use Rattle.std.specs.List.{count_by}
use Rattle.ledger.specs.Rows.{of_caller}
use Rattle.ledger.proofs.Lists.{rows_counted}
use Rattle.ledger.proofs.look.count_open.Goals as goal

pub returns : goal.returns
unfolding of_caller
returns c =
    let e : c.count.result ≡ count_by (of_caller c.args.caller) c.args.d.now.rows = search rules in
    let n : length c.args.d.now.rows ≡ 32 = omega arith in
    e ∙ rows_counted c.args.d.now n (of_caller c.args.caller)
