-- No public call of this crate can give a second result: any two results that meet its promise are the same. Assumes nothing.
-- `Post` is the promise itself, read off the source, so a promise that said less would fail here.
use mathlib.Core.Path.{sym, ◌∙◌}
use Rattle.arith.proofs.Only.{Only}
use Rattle.places.proofs.limits.liquid_end.Kinds as liquid_end_kinds
use Rattle.places.proofs.limits.liquid_end.Reads as liquid_end_reads
use Rattle.places.proofs.limits.saturates.Kinds as saturates_kinds
use Rattle.places.proofs.limits.saturates.Reads as saturates
use Rattle.places.proofs.limits.vapour_start.Kinds as vapour_start_kinds
use Rattle.places.proofs.limits.vapour_start.Reads as vapour_start_reads
use Rattle.places.proofs.ranges.wild.Kinds as wild_kinds
use Rattle.places.proofs.ranges.wild.Reads as wild
use Rattle.places.proofs.tables.place_pt.Kinds as place_pt_kinds
use Rattle.places.proofs.tables.place_pt.Reads as place_pt_reads
use Rattle.places.proofs.standings.place_py.Kinds as place_py_kinds
use Rattle.places.proofs.standings.place_py.Reads as place_py_reads
use Rattle.places.proofs.standings.standing_py.Kinds as standing_py_kinds
use Rattle.places.proofs.standings.standing_py.Reads as standing_py_reads

pub place_pt_only : Only 0 place_pt_kinds.ps place_pt_kinds.r place_pt_reads.Post
place_pt_only κs a x y s t p q = p ∙ sym q

pub place_py_only : Only 0 place_py_kinds.ps place_py_kinds.r place_py_reads.Post
place_py_only κs a x y s t p q = p ∙ sym q

pub standing_py_only : Only 0 standing_py_kinds.ps standing_py_kinds.r standing_py_reads.Post
standing_py_only κs a x y s t p q = p ∙ sym q

pub saturates_only : Only 0 saturates_kinds.ps saturates_kinds.r saturates.Post
saturates_only κs a x y s t p q = p ∙ sym q

pub liquid_end_only : Only 0 liquid_end_kinds.ps liquid_end_kinds.r liquid_end_reads.Post
liquid_end_only κs a x y s t p q = p ∙ sym q

pub vapour_start_only : Only 0 vapour_start_kinds.ps vapour_start_kinds.r vapour_start_reads.Post
vapour_start_only κs a x y s t p q = p ∙ sym q

pub wild_only : Only 0 wild_kinds.ps wild_kinds.r wild.Post
wild_only κs a x y s t p q = p ∙ sym q
