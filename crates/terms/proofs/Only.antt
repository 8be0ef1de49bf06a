-- No public call of this crate can give a second result: any two results that meet its promise are the same. Assumes nothing.
-- `Post` is the promise itself, read off the source, so a promise that said less would fail here.
use mathlib.Core.Path.{sym, ◌∙◌}
use Rattle.arith.proofs.Only.{Only}
use Rattle.terms.proofs.Table.sum.Kinds as sum_kinds
use Rattle.terms.proofs.Table.sum.Reads as sum
use Rattle.terms.proofs.Table.slope_by_a.Kinds as slope_by_a_kinds
use Rattle.terms.proofs.Table.slope_by_a.Reads as slope_by_a
use Rattle.terms.proofs.Table.slope_by_b.Kinds as slope_by_b_kinds
use Rattle.terms.proofs.Table.slope_by_b.Reads as slope_by_b
use Rattle.terms.proofs.Table.six.Kinds as six_kinds
use Rattle.terms.proofs.Table.six.Reads as six

pub sum_only : Only 1 sum_kinds.ps sum_kinds.r sum.Post
sum_only κs a x y s t p q = p ∙ sym q

pub slope_by_a_only : Only 1 slope_by_a_kinds.ps slope_by_a_kinds.r slope_by_a.Post
slope_by_a_only κs a x y s t p q = p ∙ sym q

pub slope_by_b_only : Only 1 slope_by_b_kinds.ps slope_by_b_kinds.r slope_by_b.Post
slope_by_b_only κs a x y s t p q = p ∙ sym q

pub six_sums_only : Only 1 six_kinds.ps six_kinds.r six.Post
six_sums_only κs a x y s t p q = p ∙ sym q
