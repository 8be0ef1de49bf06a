-- No public call of this crate can give a second result: any two results that meet its promise are the same. Assumes nothing.
-- `Post` is the promise itself, read off the source, so a promise that said less would fail here.
use mathlib.Core.Path.{sym, ◌∙◌}
use Rattle.arith.proofs.Only.{Only}
use Rattle.subregions.proofs.h2ab.h_2ab.Kinds as h_2ab_kinds
use Rattle.subregions.proofs.h2ab.h_2ab.Reads as h_2ab
use Rattle.subregions.proofs.subregion.Subregion.by_hs.Kinds as by_hs_kinds
use Rattle.subregions.proofs.subregion.Subregion.by_hs.Reads as by_hs_reads
use Rattle.subregions.proofs.subregion.Subregion.by_ph.Kinds as by_ph_kinds
use Rattle.subregions.proofs.subregion.Subregion.by_ph.Reads as by_ph_reads
use Rattle.subregions.proofs.subregion.Subregion.by_ps.Kinds as by_ps_kinds
use Rattle.subregions.proofs.subregion.Subregion.by_ps.Reads as by_ps_reads

pub h_2ab_only : Only 0 h_2ab_kinds.ps h_2ab_kinds.r h_2ab.Post
h_2ab_only κs a x y s t p q = p ∙ sym q

pub by_ph_only : Only 0 by_ph_kinds.ps by_ph_kinds.r by_ph_reads.Post
by_ph_only κs a x y s t p q = p ∙ sym q

pub by_ps_only : Only 0 by_ps_kinds.ps by_ps_kinds.r by_ps_reads.Post
by_ps_only κs a x y s t p q = p ∙ sym q

pub by_hs_only : Only 0 by_hs_kinds.ps by_hs_kinds.r by_hs_reads.Post
by_hs_only κs a x y s t p q = p ∙ sym q
