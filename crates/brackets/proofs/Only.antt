-- No public call of this crate can give a second result: any two results that meet its promise are the same. Assumes nothing.
-- `Post` is the promise itself, read off the source, so a promise that said less would fail here.
use mathlib.Core.Path.{sym, ◌∙◌}
use Rattle.arith.proofs.Only.{Only}
use Rattle.brackets.proofs.Bracket.half.Kinds as half_kinds
use Rattle.brackets.proofs.Bracket.half.Reads as half
use Rattle.brackets.proofs.Bracket.middle.Kinds as middle_kinds
use Rattle.brackets.proofs.Bracket.middle.Reads as middle

pub middle_only : Only 0 middle_kinds.ps middle_kinds.r middle.Post
middle_only κs a x y s t p q = p ∙ sym q

pub half_only : Only 0 half_kinds.ps half_kinds.r half.Post
half_only κs a x y s t p q = p ∙ sym q
