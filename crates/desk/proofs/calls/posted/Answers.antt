-- `desk::calls::posted` meets its contract: a sound desk has a row free for a caller with fewer than four open. Assumes nothing.
use mathlib.Core.Path.{sym, ◌∙◌}
use Rattle.desk.proofs.Ways.{caller_known, found_some, free}
use Rattle.desk.proofs.calls.posted.Goals as goal

pub unwrap-i-requires : goal.unwrap-i-requires
unwrap-i-requires c =
    let sound = sym c.is_sound.ensures ∙ c.if-not-is_sound.false in
    let who = caller_known _ _ _ (sym c.known.ensures ∙ c.if-not-known.false) in
    rw (c.places_on.ensures, found_some _ (free c.args.d.now sound _ _ who c.count_open.ensures c.if-count_open-ge4.false))
