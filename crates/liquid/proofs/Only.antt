-- No public call of this crate can give a second result: any two results that meet its promise are the same. Assumes nothing.
use mathlib.Core.Path.{sym, ◌∙◌}
use Rattle.arith.proofs.Only.{Only}
use Rattle.liquid.proofs.region1.Region1Basic.point.Kinds as point_1_kinds
use Rattle.liquid.proofs.region1.Region1Basic.point.Reads as point_1
use Rattle.liquid.proofs.region1.Region1Basic.gamma.Kinds as gamma_1_kinds
use Rattle.liquid.proofs.region1.Region1Basic.gamma.Reads as gamma_1
use Rattle.liquid.proofs.region1.Region1Basic.unrooted_of.Kinds as unrooted_of_1_kinds
use Rattle.liquid.proofs.region1.Region1Basic.unrooted_of.Reads as unrooted_of_1
use Rattle.liquid.proofs.region1.Region1Basic.state_of.Kinds as state_of_1_kinds
use Rattle.liquid.proofs.region1.Region1Basic.state_of.Reads as state_of_1
use Rattle.liquid.proofs.region1.Region1Basic.state.Kinds as state_1_kinds
use Rattle.liquid.proofs.region1.Region1Basic.state.Reads as state_1
use Rattle.liquid.proofs.region1.Region1Basic.response_of.Kinds as response_of_1_kinds
use Rattle.liquid.proofs.region1.Region1Basic.response_of.Reads as response_of_1
use Rattle.liquid.proofs.region1.Region1Basic.h.Kinds as h_1_kinds
use Rattle.liquid.proofs.region1.Region1Basic.h.Reads as h_1
use Rattle.liquid.proofs.region1.Region1Basic.s.Kinds as s_1_kinds
use Rattle.liquid.proofs.region1.Region1Basic.s.Reads as s_1
use Rattle.liquid.proofs.region1.LiquidGamma.unrooted.Kinds as liquid_unrooted_kinds
use Rattle.liquid.proofs.region1.LiquidGamma.unrooted.Reads as liquid_unrooted
use Rattle.liquid.proofs.region1.LiquidGamma.response.Kinds as liquid_response_kinds
use Rattle.liquid.proofs.region1.LiquidGamma.response.Reads as liquid_response
use Rattle.liquid.proofs.region1.Region1Basic.unrooted.Kinds as unrooted_1_kinds
use Rattle.liquid.proofs.region1.Region1Basic.unrooted.Reads as unrooted_1

pub point_1_only : Only 0 point_1_kinds.ps point_1_kinds.r point_1.Post
point_1_only κs a x y s t p q = p ∙ sym q

pub gamma_1_only : Only 0 gamma_1_kinds.ps gamma_1_kinds.r gamma_1.Post
gamma_1_only κs a x y s t p q = p ∙ sym q

pub unrooted_of_1_only : Only 0 unrooted_of_1_kinds.ps unrooted_of_1_kinds.r unrooted_of_1.Post
unrooted_of_1_only κs a x y s t p q = p ∙ sym q

pub state_of_1_only : Only 0 state_of_1_kinds.ps state_of_1_kinds.r state_of_1.Post
state_of_1_only κs a x y s t p q = p ∙ sym q

pub state_1_only : Only 0 state_1_kinds.ps state_1_kinds.r state_1.Post
state_1_only κs a x y s t p q = p ∙ sym q

pub response_of_1_only : Only 0 response_of_1_kinds.ps response_of_1_kinds.r response_of_1.Post
response_of_1_only κs a x y s t p q = p ∙ sym q

pub h_1_only : Only 0 h_1_kinds.ps h_1_kinds.r h_1.Post
h_1_only κs a x y s t p q = p ∙ sym q

pub s_1_only : Only 0 s_1_kinds.ps s_1_kinds.r s_1.Post
s_1_only κs a x y s t p q = p ∙ sym q

pub liquid_unrooted_only : Only 0 liquid_unrooted_kinds.ps liquid_unrooted_kinds.r liquid_unrooted.Post
liquid_unrooted_only κs a x y s t p q = p ∙ sym q

pub liquid_response_only : Only 0 liquid_response_kinds.ps liquid_response_kinds.r liquid_response.Post
liquid_response_only κs a x y s t p q = p ∙ sym q

pub unrooted_1_only : Only 0 unrooted_1_kinds.ps unrooted_1_kinds.r unrooted_1.Post
unrooted_1_only κs a x y s t p q = p ∙ sym q
