-- `replay::play` meets its contract: the record that is played is the one that comes next, and its text, which is the definition's own of it (`next_text`), fits
-- this room (`text_fits`), so that none is cut (`uncut`). Assumes nothing.
use Rattle.text.proofs.Pieces.{said, uncut}
use Rattle.transcript.proofs.Fits.{text_fits}
use Rattle.transcript.specs.Steps.{standing, deed_at}
use Prim.Native.Nat.{◌+◌}
use Rattle.transcript.proofs.RunLaws.{played, next_text}
use Rattle.replay.proofs.play.Goals as goal

pub returns : goal.returns
returns c =
    let room = c.play-arg-2-1.given.0.1 in
    let run = c.args.run.now in
    let k = c.args.k in (
      played c.requires.0 c.requires.2 c.play.ensures.0,
      uncut (said (next_text c.requires.2) c.play.ensures.1) (rw room (text_fits (k + 1) (standing run k).desk (deed_at run k))),
    )
