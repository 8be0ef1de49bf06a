-- No public call of this crate can give a second result: any two results that meet its promise are the same. Assumes nothing.
use mathlib.Core.Path.{sym, ◌∙◌}
use Rattle.arith.proofs.Only.{Only}
use Rattle.hot.proofs.region5.Region5Basic.point.Kinds as point_5_kinds
use Rattle.hot.proofs.region5.Region5Basic.point.Reads as point_5
use Rattle.hot.proofs.region5.Region5Basic.gamma.Kinds as gamma_5_kinds
use Rattle.hot.proofs.region5.Region5Basic.gamma.Reads as gamma_5
use Rattle.hot.proofs.region5.Region5Basic.unrooted_of.Kinds as unrooted_of_5_kinds
use Rattle.hot.proofs.region5.Region5Basic.unrooted_of.Reads as unrooted_of_5
use Rattle.hot.proofs.region5.Region5Basic.state_of.Kinds as state_of_5_kinds
use Rattle.hot.proofs.region5.Region5Basic.state_of.Reads as state_of_5
use Rattle.hot.proofs.region5.Region5Basic.state.Kinds as state_5_kinds
use Rattle.hot.proofs.region5.Region5Basic.state.Reads as state_5
use Rattle.hot.proofs.region5.Region5Basic.response_of.Kinds as response_of_5_kinds
use Rattle.hot.proofs.region5.Region5Basic.response_of.Reads as response_of_5
use Rattle.hot.proofs.region5.Region5Basic.h.Kinds as h_5_kinds
use Rattle.hot.proofs.region5.Region5Basic.h.Reads as h_5
use Rattle.hot.proofs.region5.Region5Basic.s.Kinds as s_5_kinds
use Rattle.hot.proofs.region5.Region5Basic.s.Reads as s_5
use Rattle.hot.proofs.region5.Region5Parts.shifted.Kinds as shifted_5_kinds
use Rattle.hot.proofs.region5.Region5Parts.shifted.Reads as shifted_5
use Rattle.hot.proofs.region5.Region5Basic.unrooted.Kinds as unrooted_5_kinds
use Rattle.hot.proofs.region5.Region5Basic.unrooted.Reads as unrooted_5

pub point_5_only : Only 0 point_5_kinds.ps point_5_kinds.r point_5.Post
point_5_only κs a x y s t p q = p ∙ sym q

pub gamma_5_only : Only 0 gamma_5_kinds.ps gamma_5_kinds.r gamma_5.Post
gamma_5_only κs a x y s t p q = p ∙ sym q

pub unrooted_of_5_only : Only 0 unrooted_of_5_kinds.ps unrooted_of_5_kinds.r unrooted_of_5.Post
unrooted_of_5_only κs a x y s t p q = p ∙ sym q

pub state_of_5_only : Only 0 state_of_5_kinds.ps state_of_5_kinds.r state_of_5.Post
state_of_5_only κs a x y s t p q = p ∙ sym q

pub state_5_only : Only 0 state_5_kinds.ps state_5_kinds.r state_5.Post
state_5_only κs a x y s t p q = p ∙ sym q

pub response_of_5_only : Only 0 response_of_5_kinds.ps response_of_5_kinds.r response_of_5.Post
response_of_5_only κs a x y s t p q = p ∙ sym q

pub h_5_only : Only 0 h_5_kinds.ps h_5_kinds.r h_5.Post
h_5_only κs a x y s t p q = p ∙ sym q

pub s_5_only : Only 0 s_5_kinds.ps s_5_kinds.r s_5.Post
s_5_only κs a x y s t p q = p ∙ sym q

pub shifted_5_only : Only 0 shifted_5_kinds.ps shifted_5_kinds.r shifted_5.Post
shifted_5_only κs a x y s t p q = p ∙ sym q

pub unrooted_5_only : Only 0 unrooted_5_kinds.ps unrooted_5_kinds.r unrooted_5.Post
unrooted_5_only κs a x y s t p q = p ∙ sym q
