-- No public call of this crate can give a second result: any two answers that meet its promise are the same. Assumes nothing. `Post` is the promise itself,
-- read off the source, so a promise that said less would fail here.
use mathlib.Core.Path.{sym, ◌∙◌}
use Rattle.arith.proofs.Only.{Only}
use Rattle.turns.proofs.turns.Kinds as turns_kinds
use Rattle.turns.proofs.turns.Reads as turns

pub turns_only : Only 0 turns_kinds.ps turns_kinds.r turns.Post
turns_only κs a x y s t p q = p ∙ sym q
