-- No public call of this crate can give a second result: any two that meet its promise are the same. Assumes nothing.
-- `Post` is the promise itself, read off the source, so a promise that said less would fail here.
use mathlib.Core.Path.{sym, ◌∙◌}
use Rattle.arith.proofs.Only.{Only}
use Rattle.records.proofs.deeds.read.Kinds as read_kinds
use Rattle.records.proofs.deeds.read.Reads as read
use Rattle.records.proofs.desks.desk_in.Kinds as desk_in_kinds
use Rattle.records.proofs.desks.desk_in.Reads as desk_in_reads

pub read_only : Only 1 read_kinds.ps read_kinds.r read.Post
read_only κs a x y s t p q = p ∙ sym q

pub desk_in_only : Only 1 desk_in_kinds.ps desk_in_kinds.r desk_in_reads.Post
desk_in_only κs a x y s t p q = p ∙ sym q
