-- No public call of this crate can give a second result: any two results that meet its promise are the same. Assumes nothing.
-- `Post` is the promise itself, read off the source, so a promise that said less would fail here.
use mathlib.Core.Path.{sym, ◌∙◌}
use Rattle.arith.proofs.Only.{Only}
use Rattle.states.proofs.marks.carried.Kinds as carried_kinds
use Rattle.states.proofs.marks.carried.Reads as carried
use Rattle.states.proofs.marks.state_at.Kinds as state_at_kinds
use Rattle.states.proofs.marks.state_at.Reads as state_at_reads
use Rattle.states.proofs.marks.both_near.Kinds as both_near_kinds
use Rattle.states.proofs.marks.both_near.Reads as both_near_reads
use Rattle.states.proofs.marks.marked.Kinds as marked_kinds
use Rattle.states.proofs.marks.marked.Reads as marked
use Rattle.states.proofs.marks.handed_out.Kinds as handed_out_kinds
use Rattle.states.proofs.marks.handed_out.Reads as handed_out_reads
use Rattle.states.proofs.mixing.wet_at.Kinds as wet_at_kinds
use Rattle.states.proofs.mixing.wet_at.Reads as wet_at_reads

pub marked_only : Only 0 marked_kinds.ps marked_kinds.r marked.Post
marked_only κs a x y s t p q = p ∙ sym q

pub handed_out_only : Only 0 handed_out_kinds.ps handed_out_kinds.r handed_out_reads.Post
handed_out_only κs a x y s t p q = p ∙ sym q

pub both_near_only : Only 0 both_near_kinds.ps both_near_kinds.r both_near_reads.Post
both_near_only κs a x y s t p q = p ∙ sym q

pub wet_at_only : Only 0 wet_at_kinds.ps wet_at_kinds.r wet_at_reads.Post
wet_at_only κs a x y s t p q = p ∙ sym q

pub carried_only : Only 0 carried_kinds.ps carried_kinds.r carried.Post
carried_only κs a x y s t p q = p ∙ sym q

pub state_at_only : Only 0 state_at_kinds.ps state_at_kinds.r state_at_reads.Post
state_at_only κs a x y s t p q = p ∙ sym q
