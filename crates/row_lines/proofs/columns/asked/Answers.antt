-- `row_lines::columns::asked` meets its contract: the query at the values of the row's bits. Assumes nothing.
use mathlib.Core.Path.{ap, ◌∙◌}
use lib.Ieee.{Float}
use Rattle.arith.specs.Bits.{float_of}
use Rattle.sums.specs.Queries.{answer_of}
use Rattle.row_lines.proofs.columns.asked.Goals as goal

pub returns : goal.returns
returns c =
    let row = c.args.row in
    c.query.ensures
    ∙ ap (λ (x : Float). answer_of row.kind x c.float_of-2.result) c.float_of.ensures
    ∙ ap (answer_of row.kind (float_of row.first)) c.float_of-2.ensures
