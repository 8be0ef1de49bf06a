-- No public call of this crate can give a second result: any two results that meet its promise are the same. Assumes nothing.
-- `Post` is the promise itself, read off the source, so a promise that said less would fail here.
use mathlib.Core.Path.{sym, ◌∙◌}
use Rattle.arith.proofs.Only.{Only}
use Rattle.pull.proofs.in_reach.Kinds as in_reach_kinds
use Rattle.pull.proofs.in_reach.Reads as in_reach
use Rattle.pull.proofs.pulled.Kinds as pulled_kinds
use Rattle.pull.proofs.pulled.Reads as pulled

pub pulled_only : Only 0 pulled_kinds.ps pulled_kinds.r pulled.Post
pulled_only κs a x y s t p q = p ∙ sym q

pub in_reach_only : Only 0 in_reach_kinds.ps in_reach_kinds.r in_reach.Post
in_reach_only κs a x y s t p q = p ∙ sym q
