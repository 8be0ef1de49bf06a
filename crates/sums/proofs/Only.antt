-- No public call of this crate can give a second result: any two results that meet its promise are the same. Assumes nothing.
-- `Post` is the promise itself, read off the source, so a promise that said less would fail here.
use mathlib.Core.Path.{sym, ◌∙◌}
use Rattle.arith.proofs.Only.{Only}
use Rattle.sums.proofs.derived.quotient.Kinds as quotient_kinds
use Rattle.sums.proofs.derived.quotient.Reads as quotient
use Rattle.sums.proofs.queries.from_hs.Kinds as from_hs_kinds
use Rattle.sums.proofs.queries.from_hs.Reads as from_hs
use Rattle.sums.proofs.queries.from_ph.Kinds as from_ph_kinds
use Rattle.sums.proofs.queries.from_ph.Reads as from_ph
use Rattle.sums.proofs.queries.from_ps.Kinds as from_ps_kinds
use Rattle.sums.proofs.queries.from_ps.Reads as from_ps
use Rattle.sums.proofs.queries.from_pt.Kinds as from_pt_kinds
use Rattle.sums.proofs.queries.from_pt.Reads as from_pt
use Rattle.sums.proofs.queries.query.Kinds as query_kinds
use Rattle.sums.proofs.queries.query.Reads as query

pub from_pt_only : Only 0 from_pt_kinds.ps from_pt_kinds.r from_pt.Post
from_pt_only κs a x y s t p q = p ∙ sym q

pub from_ph_only : Only 0 from_ph_kinds.ps from_ph_kinds.r from_ph.Post
from_ph_only κs a x y s t p q = p ∙ sym q

pub from_ps_only : Only 0 from_ps_kinds.ps from_ps_kinds.r from_ps.Post
from_ps_only κs a x y s t p q = p ∙ sym q

pub from_hs_only : Only 0 from_hs_kinds.ps from_hs_kinds.r from_hs.Post
from_hs_only κs a x y s t p q = p ∙ sym q

pub query_only : Only 0 query_kinds.ps query_kinds.r query.Post
query_only κs a x y s t p q = p ∙ sym q

pub quotient_only : Only 0 quotient_kinds.ps quotient_kinds.r quotient.Post
quotient_only κs a x y s t p q = p ∙ sym q
