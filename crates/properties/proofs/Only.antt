-- No public call of this crate can give a second result: any two results that meet its promise are the same. Assumes nothing.
use mathlib.Core.Path.{sym, ◌∙◌}
use Rattle.arith.proofs.Only.{Only}
use Rattle.properties.proofs.gibbs.reduced.Kinds as reduced_kinds
use Rattle.properties.proofs.gibbs.reduced.Reads as reduced
use Rattle.properties.proofs.gibbs.enthalpy.Kinds as enthalpy_kinds
use Rattle.properties.proofs.gibbs.enthalpy.Reads as enthalpy
use Rattle.properties.proofs.gibbs.entropy.Kinds as entropy_kinds
use Rattle.properties.proofs.gibbs.entropy.Reads as entropy
use Rattle.properties.proofs.gibbs.from_gamma.Kinds as from_gamma_kinds
use Rattle.properties.proofs.gibbs.from_gamma.Reads as from_gamma
use Rattle.properties.proofs.gibbs.rooted.Kinds as rooted_kinds
use Rattle.properties.proofs.gibbs.rooted.Reads as rooted
use Rattle.properties.proofs.basic.Basic.point.Kinds as basic_point_kinds
use Rattle.properties.proofs.basic.Basic.point.Reads as basic_point
use Rattle.properties.proofs.basic.Basic.unrooted_of.Kinds as basic_unrooted_of_kinds
use Rattle.properties.proofs.basic.Basic.unrooted_of.Reads as basic_unrooted_of
use Rattle.properties.proofs.basic.Basic.unrooted.Kinds as basic_unrooted_kinds
use Rattle.properties.proofs.basic.Basic.unrooted.Reads as basic_unrooted
use Rattle.properties.proofs.basic.Basic.state_of.Kinds as basic_state_of_kinds
use Rattle.properties.proofs.basic.Basic.state_of.Reads as basic_state_of
use Rattle.properties.proofs.basic.Basic.state.Kinds as basic_state_kinds
use Rattle.properties.proofs.basic.Basic.state.Reads as basic_state
use Rattle.properties.proofs.basic.Basic.response_of.Kinds as basic_response_of_kinds
use Rattle.properties.proofs.basic.Basic.response_of.Reads as basic_response_of

pub reduced_only : Only 0 reduced_kinds.ps reduced_kinds.r reduced.Post
reduced_only κs a x y s t p q = p ∙ sym q

pub enthalpy_only : Only 0 enthalpy_kinds.ps enthalpy_kinds.r enthalpy.Post
enthalpy_only κs a x y s t p q = p ∙ sym q

pub entropy_only : Only 0 entropy_kinds.ps entropy_kinds.r entropy.Post
entropy_only κs a x y s t p q = p ∙ sym q

pub from_gamma_only : Only 0 from_gamma_kinds.ps from_gamma_kinds.r from_gamma.Post
from_gamma_only κs a x y s t p q = p ∙ sym q

pub rooted_only : Only 0 rooted_kinds.ps rooted_kinds.r rooted.Post
rooted_only κs a x y s t p q = p ∙ sym q

-- of every basic equation: what it gives is in `basic`, and what its γ gives in `gamma`
pub basic_point_only : (B : _) (G : _) (laws : _) (gammas : _) (copy : _) (basic : _) (d : _) (gamma : _) (e : _) (clone : _) (f : _) → Only 2 (basic_point_kinds.ps B G laws gammas copy) (basic_point_kinds.r B G laws gammas copy) (basic_point.Post B G laws gammas copy basic d gamma e clone f)
basic_point_only B G laws gammas copy basic d gamma e clone f κs a x y t u p q = p ∙ sym q

pub basic_unrooted_of_only : (B : _) (G : _) (laws : _) (gammas : _) (copy : _) (basic : _) (d : _) (gamma : _) (e : _) (clone : _) (f : _) → Only 2 (basic_unrooted_of_kinds.ps B G laws gammas copy) (basic_unrooted_of_kinds.r B G laws gammas copy) (basic_unrooted_of.Post B G laws gammas copy basic d gamma e clone f)
basic_unrooted_of_only B G laws gammas copy basic d gamma e clone f κs a x y t u p q = p ∙ sym q

pub basic_unrooted_only : (B : _) (G : _) (laws : _) (gammas : _) (copy : _) (basic : _) (d : _) (gamma : _) (e : _) (clone : _) (f : _) → Only 2 (basic_unrooted_kinds.ps B G laws gammas copy) (basic_unrooted_kinds.r B G laws gammas copy) (basic_unrooted.Post B G laws gammas copy basic d gamma e clone f)
basic_unrooted_only B G laws gammas copy basic d gamma e clone f κs a x y t u p q = p ∙ sym q

pub basic_state_of_only : (B : _) (G : _) (laws : _) (gammas : _) (copy : _) (basic : _) (d : _) (gamma : _) (e : _) (clone : _) (f : _) → Only 2 (basic_state_of_kinds.ps B G laws gammas copy) (basic_state_of_kinds.r B G laws gammas copy) (basic_state_of.Post B G laws gammas copy basic d gamma e clone f)
basic_state_of_only B G laws gammas copy basic d gamma e clone f κs a x y t u p q = p ∙ sym q

pub basic_state_only : (B : _) (G : _) (laws : _) (gammas : _) (copy : _) (basic : _) (d : _) (gamma : _) (e : _) (clone : _) (f : _) → Only 2 (basic_state_kinds.ps B G laws gammas copy) (basic_state_kinds.r B G laws gammas copy) (basic_state.Post B G laws gammas copy basic d gamma e clone f)
basic_state_only B G laws gammas copy basic d gamma e clone f κs a x y t u p q = p ∙ sym q

pub basic_response_of_only : (B : _) (G : _) (laws : _) (gammas : _) (copy : _) (basic : _) (d : _) (gamma : _) (e : _) (clone : _) (f : _) → Only 2 (basic_response_of_kinds.ps B G laws gammas copy) (basic_response_of_kinds.r B G laws gammas copy) (basic_response_of.Post B G laws gammas copy basic d gamma e clone f)
basic_response_of_only B G laws gammas copy basic d gamma e clone f κs a x y t u p q = p ∙ sym q
