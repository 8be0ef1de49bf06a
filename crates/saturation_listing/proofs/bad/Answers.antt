-- `saturation_listing::bad` meets its contract: the length is judged first. Assumes nothing.
use mathlib.Core.Path.{refl}
use borrow.Author.Tests.{lt-ltb, le-ltb}
use Rattle.saturation_listing.specs.Listing.{longest, bad_length}
use Rattle.saturation_listing.proofs.bad.Goals as goal

pub returns-then-length-gt-LONGEST : goal.returns-then-length-gt-LONGEST
unfolding bad_length
returns-then-length-gt-LONGEST c = rw (lt-ltb longest c.args.length c.if-length-gt-LONGEST.true) refl

pub returns-else-length-gt-LONGEST : goal.returns-else-length-gt-LONGEST
unfolding bad_length
returns-else-length-gt-LONGEST c = rw (le-ltb longest c.args.length c.if-length-gt-LONGEST.false) refl
