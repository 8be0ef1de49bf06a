-- No public call of this crate can give a second result: any two results that meet its promise are the same. Assumes nothing.
use mathlib.Core.Path.{sym, ◌∙◌}
use Rattle.arith.proofs.Only.{Only}
use Rattle.steam.proofs.region2.Region2Basic.point.Kinds as point_2_kinds
use Rattle.steam.proofs.region2.Region2Basic.point.Reads as point_2
use Rattle.steam.proofs.region2.Region2Basic.gamma.Kinds as gamma_2_kinds
use Rattle.steam.proofs.region2.Region2Basic.gamma.Reads as gamma_2
use Rattle.steam.proofs.region2.Region2Basic.unrooted_of.Kinds as unrooted_of_2_kinds
use Rattle.steam.proofs.region2.Region2Basic.unrooted_of.Reads as unrooted_of_2
use Rattle.steam.proofs.region2.Region2Basic.state_of.Kinds as state_of_2_kinds
use Rattle.steam.proofs.region2.Region2Basic.state_of.Reads as state_of_2
use Rattle.steam.proofs.region2.Region2Basic.state.Kinds as state_2_kinds
use Rattle.steam.proofs.region2.Region2Basic.state.Reads as state_2
use Rattle.steam.proofs.region2.Region2Basic.response_of.Kinds as response_of_2_kinds
use Rattle.steam.proofs.region2.Region2Basic.response_of.Reads as response_of_2
use Rattle.steam.proofs.region2.Region2Basic.h.Kinds as h_2_kinds
use Rattle.steam.proofs.region2.Region2Basic.h.Reads as h_2
use Rattle.steam.proofs.region2.Region2Basic.s.Kinds as s_2_kinds
use Rattle.steam.proofs.region2.Region2Basic.s.Reads as s_2
use Rattle.steam.proofs.region2.Region2Parts.shifted.Kinds as shifted_2_kinds
use Rattle.steam.proofs.region2.Region2Parts.shifted.Reads as shifted_2
use Rattle.steam.proofs.region2.Region2Basic.unrooted.Kinds as unrooted_2_kinds
use Rattle.steam.proofs.region2.Region2Basic.unrooted.Reads as unrooted_2

pub point_2_only : Only 0 point_2_kinds.ps point_2_kinds.r point_2.Post
point_2_only κs a x y s t p q = p ∙ sym q

pub gamma_2_only : Only 0 gamma_2_kinds.ps gamma_2_kinds.r gamma_2.Post
gamma_2_only κs a x y s t p q = p ∙ sym q

pub unrooted_of_2_only : Only 0 unrooted_of_2_kinds.ps unrooted_of_2_kinds.r unrooted_of_2.Post
unrooted_of_2_only κs a x y s t p q = p ∙ sym q

pub state_of_2_only : Only 0 state_of_2_kinds.ps state_of_2_kinds.r state_of_2.Post
state_of_2_only κs a x y s t p q = p ∙ sym q

pub state_2_only : Only 0 state_2_kinds.ps state_2_kinds.r state_2.Post
state_2_only κs a x y s t p q = p ∙ sym q

pub response_of_2_only : Only 0 response_of_2_kinds.ps response_of_2_kinds.r response_of_2.Post
response_of_2_only κs a x y s t p q = p ∙ sym q

pub h_2_only : Only 0 h_2_kinds.ps h_2_kinds.r h_2.Post
h_2_only κs a x y s t p q = p ∙ sym q

pub s_2_only : Only 0 s_2_kinds.ps s_2_kinds.r s_2.Post
s_2_only κs a x y s t p q = p ∙ sym q

pub shifted_2_only : Only 0 shifted_2_kinds.ps shifted_2_kinds.r shifted_2.Post
shifted_2_only κs a x y s t p q = p ∙ sym q

pub unrooted_2_only : Only 0 unrooted_2_kinds.ps unrooted_2_kinds.r unrooted_2.Post
unrooted_2_only κs a x y s t p q = p ∙ sym q
