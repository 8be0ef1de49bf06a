-- `listing::opening::note` meets its contract: what is shorter than the note is all note. Assumes nothing.
use mathlib.Core.Path.{sym}
use native.Mathlib.Omega.{arith}
use lib.Seq.{length-take-le, take_all}
use Rattle.listing.proofs.opening.note.Goals as goal

pub slice_bounds-result-end : goal.slice_bounds-result-end
slice_bounds-result-end c = sym (length-take-le _ _ (omega arith))

pub returns-else-start-sheet : goal.returns-else-start-sheet
returns-else-start-sheet c = sym (take_all _ _ c.if-start-sheet.false)
