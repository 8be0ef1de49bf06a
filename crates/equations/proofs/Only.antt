-- No public call of this crate can give a second result: any two results that meet its promise are the same. Assumes nothing.
-- `Post` is the promise itself, read off the source, so a promise that said less would fail here.
use mathlib.Core.Path.{sym, ◌∙◌}
use Rattle.arith.proofs.Only.{Only}
use Rattle.equations.proofs.names.equation_of.Kinds as equation_of_kinds
use Rattle.equations.proofs.names.equation_of.Reads as equation_of_reads
use Rattle.equations.proofs.names.is_of.Kinds as is_of_kinds
use Rattle.equations.proofs.names.is_of.Reads as is_of_reads
use Rattle.equations.proofs.names.region_of.Kinds as region_of_kinds
use Rattle.equations.proofs.names.region_of.Reads as region_of_reads

pub region_of_only : Only 0 region_of_kinds.ps region_of_kinds.r region_of_reads.Post
region_of_only κs a x y s t p q = p ∙ sym q

pub is_of_only : Only 0 is_of_kinds.ps is_of_kinds.r is_of_reads.Post
is_of_only κs a x y s t p q = p ∙ sym q

pub equation_of_only : Only 0 equation_of_kinds.ps equation_of_kinds.r equation_of_reads.Post
equation_of_only κs a x y s t p q = p ∙ sym q
