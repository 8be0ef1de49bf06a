-- No public call of this crate can give a second result: any two results that meet its promise are the same. Assumes nothing.
use mathlib.Core.Path.{sym, ◌∙◌}
use Rattle.arith.proofs.Only.{Only}
use Rattle.boundaries.proofs.p_b23.Kinds as p_b23_kinds
use Rattle.boundaries.proofs.p_b23.Reads as p_b23_reads
use Rattle.boundaries.proofs.t_b23.Kinds as t_b23_kinds
use Rattle.boundaries.proofs.t_b23.Reads as t_b23_reads
use Rattle.boundaries.proofs.p_2bc.Kinds as p_2bc_kinds
use Rattle.boundaries.proofs.p_2bc.Reads as p_2bc

pub p_b23_only : Only 0 p_b23_kinds.ps p_b23_kinds.r p_b23_reads.Post
p_b23_only κs a x y s t p q = p ∙ sym q

pub t_b23_only : Only 0 t_b23_kinds.ps t_b23_kinds.r t_b23_reads.Post
t_b23_only κs a x y s t p q = p ∙ sym q

pub p_2bc_only : Only 0 p_2bc_kinds.ps p_2bc_kinds.r p_2bc.Post
p_2bc_only κs a x y s t p q = p ∙ sym q
