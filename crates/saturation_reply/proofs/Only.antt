-- No public call of this crate can give a second result: any two results that meet its promise are the same. Assumes nothing.
-- `Post` is the promise itself, read off the source, so a promise that said less would fail here.
use mathlib.Core.Path.{sym, ◌∙◌}
use Rattle.arith.proofs.Only.{Only}
use Rattle.saturation_reply.proofs.place.Kinds as place_kinds
use Rattle.saturation_reply.proofs.place.Reads as place
use Rattle.saturation_reply.proofs.value.Kinds as value_kinds
use Rattle.saturation_reply.proofs.value.Reads as value
use Rattle.saturation_reply.proofs.saturation.Kinds as saturation_kinds
use Rattle.saturation_reply.proofs.saturation.Reads as saturation

pub saturation_only : Only 0 saturation_kinds.ps saturation_kinds.r saturation.Post
saturation_only κs a x y s t p q = p ∙ sym q

pub place_only : (E : _) (laws : _) (copy : _) (clone : _) (d : _) → Only 1 (place_kinds.ps E laws copy) (place_kinds.r E laws copy) (place.Post E laws copy clone d)
place_only E laws copy clone d κs a x y s t p q = p ∙ sym q

pub value_only : (E : _) (laws : _) (copy : _) (clone : _) (d : _) → Only 1 (value_kinds.ps E laws copy) (value_kinds.r E laws copy) (value.Post E laws copy clone d)
value_only E laws copy clone d κs a x y s t p q = p ∙ sym q
