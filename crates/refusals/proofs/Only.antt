-- No public call of this crate can give a second result: any two results that meet its promise are the same. Assumes nothing.
-- `Post` is the promise itself, read off the source, so a promise that said less would fail here.
use mathlib.Core.Path.{sym, ◌∙◌}
use Rattle.arith.proofs.Only.{Only}
use Rattle.refusals.proofs.Refusal.number.Kinds as number_of_kinds
use Rattle.refusals.proofs.Refusal.number.Reads as number_of_reads
use Rattle.refusals.proofs.RefusalNumbered.as_number.Kinds as by_table_kinds
use Rattle.refusals.proofs.RefusalNumbered.as_number.Reads as by_table_reads
use Rattle.refusals.proofs.U64Numbered.as_number.Kinds as by_itself_kinds
use Rattle.refusals.proofs.U64Numbered.as_number.Reads as by_itself_reads
use Rattle.refusals.proofs.number.Kinds as number_in_kinds
use Rattle.refusals.proofs.number.Reads as number_in_reads

pub refusal_number_only : Only 0 number_of_kinds.ps number_of_kinds.r number_of_reads.Post
refusal_number_only κs a x y s t p q = p ∙ sym q

-- `as_number` of a refusal, and of a number by itself
pub by_table_only : Only 0 by_table_kinds.ps by_table_kinds.r by_table_reads.Post
by_table_only κs a x y s t p q = p ∙ sym q

pub by_itself_only : Only 0 by_itself_kinds.ps by_itself_kinds.r by_itself_reads.Post
by_itself_only κs a x y s t p q = p ∙ sym q

-- of an answer of any type, refused by whatever has a number: which it has is in `numbered`
pub number_only : (T : _) (E : _) (laws : _) (errors : _) (copy : _) (copies : _) (clone : _) (d : _) (numbered : _) (e : _) (clones : _) (f : _) → Only 2 (number_in_kinds.ps T E laws errors copy copies) (number_in_kinds.r T E laws errors copy copies) (number_in_reads.Post T E laws errors copy copies clone d numbered e clones f)
number_only T E laws errors copy copies clone d numbered e clones f κs a x y s t p q = p ∙ sym q
