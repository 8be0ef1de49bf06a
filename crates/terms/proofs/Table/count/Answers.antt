-- `terms::Table::count` meets its contract: rows go as far as the shortest slice. Assumes nothing.
use native.Mathlib.Omega.{arith}
use Rattle.terms.proofs.Rows.{rows_length}
use Rattle.terms.proofs.Table.count.Goals as goal

pub returns : goal.returns
returns c = omega (arith, rows_length c.args.self.n.now c.args.self.i.now c.args.self.j.now, c.min.ensures, c.min-2.ensures)
