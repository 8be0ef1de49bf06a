-- No public call of this crate can give a second result: any two results that meet its promise are the same. Assumes nothing.
use mathlib.Core.Path.{sym, ◌∙◌}
use Rattle.arith.proofs.Only.{Only}
use Rattle.saturation_line.proofs.pressure.ps.Kinds as ps_kinds
use Rattle.saturation_line.proofs.pressure.ps.Reads as ps
use Rattle.saturation_line.proofs.printed.ts.Kinds as ts_kinds
use Rattle.saturation_line.proofs.printed.ts.Reads as ts

pub ps_only : Only 0 ps_kinds.ps ps_kinds.r ps.Post
ps_only κs a x y s t p q = p ∙ sym q

pub ts_only : Only 0 ts_kinds.ps ts_kinds.r ts.Post
ts_only κs a x y s t p q = p ∙ sym q
