-- No public call of this crate can give a second result, whatever it is given. Assumes nothing.
use mathlib.Core.Path.{sym, ◌∙◌}
use Rattle.arith.proofs.Only.{Only}
use Rattle.settle.proofs.naming.phase.Kinds as phase_kinds
use Rattle.settle.proofs.naming.phase.Reads as phase
use Rattle.settle.proofs.naming.region.Kinds as region_kinds
use Rattle.settle.proofs.naming.region.Reads as region
use Rattle.settle.proofs.judge.Kinds as judge_kinds
use Rattle.settle.proofs.judge.Reads as judge
use Rattle.settle.proofs.halve.Kinds as halve_kinds
use Rattle.settle.proofs.halve.Reads as halve
use Rattle.settle.proofs.settled_at.Kinds as settled_at_kinds
use Rattle.settle.proofs.settled_at.Reads as settled_at

pub judge_only : Only 0 judge_kinds.ps judge_kinds.r judge.Post
judge_only κs a x y s t p q = p ∙ sym q

pub halve_only : Only 0 halve_kinds.ps halve_kinds.r halve.Post
halve_only κs a x y s t p q = p ∙ sym q

pub settled_at_only : Only 0 settled_at_kinds.ps settled_at_kinds.r settled_at.Post
settled_at_only κs a x y s t p q = p ∙ sym q

pub phase_only : Only 0 phase_kinds.ps phase_kinds.r phase.Post
phase_only κs a x y s t p q = p ∙ sym q

pub region_only : Only 0 region_kinds.ps region_kinds.r region.Post
region_only κs a x y s t p q = p ∙ sym q
