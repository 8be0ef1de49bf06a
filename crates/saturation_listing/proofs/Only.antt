-- No public call of this crate can give a second result: any two places and any two rooms afterwards that meet its promise are the same. Assumes nothing.
-- `Post` is the promise itself, read off the source, so a promise that said less would fail here.
use mathlib.Core.Path.{sym, ◌∙◌}
use Rattle.text.proofs.Only.{OnlyRoom}
use Rattle.saturation_listing.proofs.saturation.Kinds as saturation_kinds
use Rattle.saturation_listing.proofs.saturation.Reads as saturation

pub saturation_only : OnlyRoom 2 saturation_kinds.ps saturation_kinds.r (λ κs s. s.1.0.now) saturation.Post
saturation_only κs a x y s t p q = (p.place ∙ sym q.place, p.room ∙ sym q.room)
