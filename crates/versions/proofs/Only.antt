-- No public call of this crate can give a second result: any two results that meet its promise are the same. Assumes nothing.
-- `Post` is the promise itself, read off the source, so a promise that said less would fail here.
use mathlib.Core.Path.{sym, ◌∙◌}
use Rattle.arith.proofs.Only.{Only}
use Rattle.versions.proofs.known.Kinds as known_kinds
use Rattle.versions.proofs.known.Reads as known
use Rattle.versions.proofs.allowed.Kinds as allowed_kinds
use Rattle.versions.proofs.allowed.Reads as allowed
use Rattle.versions.proofs.version_for.Kinds as version_for_kinds
use Rattle.versions.proofs.version_for.Reads as version_for_reads

pub known_only : Only 0 known_kinds.ps known_kinds.r known.Post
known_only κs a x y s t p q = p ∙ sym q

pub allowed_only : Only 0 allowed_kinds.ps allowed_kinds.r allowed.Post
allowed_only κs a x y s t p q = p ∙ sym q

pub version_for_only : Only 0 version_for_kinds.ps version_for_kinds.r version_for_reads.Post
version_for_only κs a x y s t p q = p ∙ sym q
