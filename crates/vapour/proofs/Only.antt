-- No public call of this crate can give a second result: any two results that meet its promise are the same. Assumes nothing.
use mathlib.Core.Path.{sym, ◌∙◌}
use Rattle.arith.proofs.Only.{Only}
use Rattle.vapour.proofs.vapours.gibbs.Kinds as gibbs_kinds
use Rattle.vapour.proofs.vapours.gibbs.Reads as gibbs
use Rattle.vapour.proofs.vapours.added.Kinds as added_kinds
use Rattle.vapour.proofs.vapours.added.Reads as added
use Rattle.vapour.proofs.vapours.VapourGamma.unrooted.Kinds as unrooted_at_kinds
use Rattle.vapour.proofs.vapours.VapourGamma.unrooted.Reads as unrooted_at_reads
use Rattle.vapour.proofs.vapours.VapourGamma.response.Kinds as response_at_kinds
use Rattle.vapour.proofs.vapours.VapourGamma.response.Reads as response_at
use Rattle.vapour.proofs.parts.gamma_at.Kinds as gamma_at_kinds
use Rattle.vapour.proofs.parts.gamma_at.Reads as gamma_at
use Rattle.vapour.proofs.parts.h_at.Kinds as h_at_kinds
use Rattle.vapour.proofs.parts.h_at.Reads as h_at
use Rattle.vapour.proofs.parts.s_at.Kinds as s_at_kinds
use Rattle.vapour.proofs.parts.s_at.Reads as s_at

pub gibbs_only : Only 0 gibbs_kinds.ps gibbs_kinds.r gibbs.Post
gibbs_only κs a x y s t p q = p ∙ sym q

pub added_only : Only 0 added_kinds.ps added_kinds.r added.Post
added_only κs a x y s t p q = p ∙ sym q

pub unrooted_at_only : Only 0 unrooted_at_kinds.ps unrooted_at_kinds.r unrooted_at_reads.Post
unrooted_at_only κs a x y s t p q = p ∙ sym q

pub response_at_only : Only 0 response_at_kinds.ps response_at_kinds.r response_at.Post
response_at_only κs a x y s t p q = p ∙ sym q

-- of every region: its tables and its shift of τ are those of `parts`
pub gamma_at_only : (V : _) (laws : _) (parts : _) (dict : _) → Only 1 (gamma_at_kinds.ps V laws) (gamma_at_kinds.r V laws) (gamma_at.Post V laws parts dict)
gamma_at_only V laws parts dict κs a x y s t p q = p ∙ sym q

pub h_at_only : (V : _) (laws : _) (parts : _) (dict : _) → Only 1 (h_at_kinds.ps V laws) (h_at_kinds.r V laws) (h_at.Post V laws parts dict)
h_at_only V laws parts dict κs a x y s t p q = p ∙ sym q

pub s_at_only : (V : _) (laws : _) (parts : _) (dict : _) → Only 1 (s_at_kinds.ps V laws) (s_at_kinds.r V laws) (s_at.Post V laws parts dict)
s_at_only V laws parts dict κs a x y s t p q = p ∙ sym q
