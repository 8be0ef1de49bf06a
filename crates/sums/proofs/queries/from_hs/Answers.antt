-- `sums::queries::from_hs` meets its contract: a state taken as it was worked and handed out is the same. Assumes nothing.
use mathlib.Core.Path.{◌≡◌, refl}
use Rattle.std.proofs.Common.{arith}
use Rattle.std.proofs.lemmas.Grind.{common_steps}
use Rattle.std.specs.Prelude.{Err}
use Rattle.sums.specs.Queries.{answer_hs}
use Rattle.sums.proofs.Forward.{forward_state}
use Rattle.sums.proofs.Carried.{shown_same}
use Rattle.sums.proofs.queries.from_hs.Goals as goal

pub returns-in_err-a : goal.returns-in_err-a
unfolding answer_hs
returns-in_err-a c =
    let refused : answer_hs c.args.h c.args.s ≡ Err c.in_err-a.field-0.0 =
    rw (← shown_same (forward_state c.args.h c.args.s), ← c.in_err-a.ensures) refl in
    grind (arith, common_steps)

pub returns : goal.returns
unfolding answer_hs
returns c = rw (← shown_same (forward_state c.args.h c.args.s), ← c.in_ok-a.ensures, c.handed_out.ensures) refl
