-- No public call of this crate can give a second result: any two results that meet its promise are the same. Assumes nothing.
-- `Post` is the promise itself, read off the source, so a promise that said less would fail here.
use mathlib.Core.Path.{sym, ◌∙◌}
use Rattle.arith.proofs.Only.{Only}
use Rattle.words.proofs.u32_at.Kinds as u32_at_kinds
use Rattle.words.proofs.u32_at.Reads as u32_at_reads
use Rattle.words.proofs.u64_at.Kinds as u64_at_kinds
use Rattle.words.proofs.u64_at.Reads as u64_at_reads
use Rattle.words.proofs.word.Kinds as word_kinds
use Rattle.words.proofs.word.Reads as word

pub u32_at_only : Only 1 u32_at_kinds.ps u32_at_kinds.r u32_at_reads.Post
u32_at_only κs a x y s t p q = p.0 ∙ sym q.0

pub u64_at_only : Only 1 u64_at_kinds.ps u64_at_kinds.r u64_at_reads.Post
u64_at_only κs a x y s t p q = p ∙ sym q

pub word_only : Only 1 word_kinds.ps word_kinds.r word.Post
word_only κs a x y s t p q = p ∙ sym q
