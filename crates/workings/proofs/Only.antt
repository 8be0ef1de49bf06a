-- No public call of this crate can give a second result: any two results that meet its promise are the same. Assumes nothing.
-- `Post` is the promise itself, read off the source, so a promise that said less would fail here.
use mathlib.Core.Path.{sym, ◌∙◌}
use Rattle.arith.proofs.Only.{Only}
use Rattle.workings.proofs.worked.given_of.Kinds as given_of_kinds
use Rattle.workings.proofs.worked.given_of.Reads as given_of_reads
use Rattle.workings.proofs.worked.property.Kinds as property_kinds
use Rattle.workings.proofs.worked.property.Reads as property
use Rattle.workings.proofs.worked.quotient_at.Kinds as quotient_at_kinds
use Rattle.workings.proofs.worked.quotient_at.Reads as quotient_at_reads
use Rattle.workings.proofs.worked.worked_at.Kinds as worked_at_kinds
use Rattle.workings.proofs.worked.worked_at.Reads as worked_at_reads

pub given_of_only : Only 0 given_of_kinds.ps given_of_kinds.r given_of_reads.Post
given_of_only κs a x y s t p q = p ∙ sym q

pub property_only : Only 0 property_kinds.ps property_kinds.r property.Post
property_only κs a x y s t p q = p ∙ sym q

pub quotient_at_only : Only 0 quotient_at_kinds.ps quotient_at_kinds.r quotient_at_reads.Post
quotient_at_only κs a x y s t p q = p ∙ sym q

pub worked_at_only : Only 0 worked_at_kinds.ps worked_at_kinds.r worked_at_reads.Post
worked_at_only κs a x y s t p q = p ∙ sym q
