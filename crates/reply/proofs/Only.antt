-- No public call of this crate can give a second result: any two results that meet its promise are the same. Assumes nothing.
-- `Post` is the promise itself, read off the source, so a promise that said less would fail here.
use mathlib.Core.Path.{sym, ◌∙◌}
use Rattle.arith.proofs.Only.{Only}
use Rattle.reply.proofs.answers.mark.Kinds as mark_kinds
use Rattle.reply.proofs.answers.mark.Reads as mark
use Rattle.reply.proofs.answers.region.Kinds as region_kinds
use Rattle.reply.proofs.answers.region.Reads as region
use Rattle.reply.proofs.answers.values.Kinds as values_kinds
use Rattle.reply.proofs.answers.values.Reads as values

pub region_only : (E : _) (laws : _) (copy : _) (clone : _) (d : _) → Only 1 (region_kinds.ps E laws copy) (region_kinds.r E laws copy) (region.Post E laws copy clone d)
region_only E laws copy clone d κs a x y s t p q = p ∙ sym q

pub mark_only : (E : _) (laws : _) (copy : _) (clone : _) (d : _) → Only 1 (mark_kinds.ps E laws copy) (mark_kinds.r E laws copy) (mark.Post E laws copy clone d)
mark_only E laws copy clone d κs a x y s t p q = p ∙ sym q

pub values_only : (E : _) (laws : _) (copy : _) (clone : _) (d : _) → Only 1 (values_kinds.ps E laws copy) (values_kinds.r E laws copy) (values.Post E laws copy clone d)
values_only E laws copy clone d κs a x y s t p q = p ∙ sym q
