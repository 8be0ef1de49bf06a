-- `written::text` meets its contract: what is given is taken apart as the definition does. Assumes nothing.
use Prim.Native.Nat.{ℕ, min}
use mathlib.Core.Path.{sym, ap, subst, ◌∙◌}
use mathlib.Core.List.{List}
use native.Mathlib.Omega.{arith}
use lib.ListN.{length}
use lib.Seq.{length-take-le}
use Rattle.text.specs.Room.{Whole}
use Rattle.listing.specs.Listings.{longest}
use Rattle.written.proofs.Laws.{apart}
use Rattle.written.proofs.text.Goals as goal

pub slice_bounds-answered-end : goal.slice_bounds-answered-end
slice_bounds-answered-end c =
    sym (length-take-le c.at_most-end.result c.behind-rest.result.now (omega (arith, c.at_most-end.ensures)))

pub returns : goal.returns
returns c =
    let s = c.args.parts.now in
    let rest = c.behind-rest.result.now in
    subst (λ (t : List ℕ). Whole c.answered.new.room t c.answered.result)
    (apart s rest c.at_most-end.result c.at_most-most.result
    c.behind-rest.ensures
    (c.at_most-end.ensures ∙ ap (λ (n : ℕ). min n (length rest)) c.word.ensures)
    (c.at_most-most.ensures ∙ ap (λ (n : ℕ). min n longest) c.word-2.ensures))
    c.answered.ensures
