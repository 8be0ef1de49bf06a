-- No public call of this crate can give a second result: any two results that meet its promise are the same. Assumes nothing.
-- `Post` is the promise itself, read off the source, so a promise that said less would fail here.
use mathlib.Core.Path.{sym, ◌∙◌}
use Rattle.arith.proofs.Only.{Only}
use Rattle.dense.proofs.region3.Region3.point.Kinds as point_kinds
use Rattle.dense.proofs.region3.Region3.point.Reads as point
use Rattle.dense.proofs.region3.Region3.phi.Kinds as phi_kinds
use Rattle.dense.proofs.region3.Region3.phi.Reads as phi
use Rattle.dense.proofs.region3.Region3.pressure_of.Kinds as pressure_of_kinds
use Rattle.dense.proofs.region3.Region3.pressure_of.Reads as pressure_of_reads
use Rattle.dense.proofs.region3.Region3.pressure.Kinds as pressure_kinds
use Rattle.dense.proofs.region3.Region3.pressure.Reads as pressure
use Rattle.dense.proofs.region3.Region3.unrooted_of.Kinds as unrooted_of_kinds
use Rattle.dense.proofs.region3.Region3.unrooted_of.Reads as unrooted_of_reads
use Rattle.dense.proofs.region3.Region3.state_of.Kinds as state_of_kinds
use Rattle.dense.proofs.region3.Region3.state_of.Reads as state_of
use Rattle.dense.proofs.region3.Region3.state.Kinds as state_kinds
use Rattle.dense.proofs.region3.Region3.state.Reads as state
use Rattle.dense.proofs.region3.Region3.response_of.Kinds as response_of_kinds
use Rattle.dense.proofs.region3.Region3.response_of.Reads as response_of
use Rattle.dense.proofs.densities.density.Kinds as density_kinds
use Rattle.dense.proofs.densities.density.Reads as density

pub point_only : Only 0 point_kinds.ps point_kinds.r point.Post
point_only κs a x y s t p q = p ∙ sym q

pub phi_only : Only 0 phi_kinds.ps phi_kinds.r phi.Post
phi_only κs a x y s t p q = p ∙ sym q

pub pressure_of_only : Only 0 pressure_of_kinds.ps pressure_of_kinds.r pressure_of_reads.Post
pressure_of_only κs a x y s t p q = p ∙ sym q

pub pressure_only : Only 0 pressure_kinds.ps pressure_kinds.r pressure.Post
pressure_only κs a x y s t p q = p ∙ sym q

pub unrooted_of_only : Only 0 unrooted_of_kinds.ps unrooted_of_kinds.r unrooted_of_reads.Post
unrooted_of_only κs a x y s t p q = p ∙ sym q

pub state_of_only : Only 0 state_of_kinds.ps state_of_kinds.r state_of.Post
state_of_only κs a x y s t p q = p ∙ sym q

pub state_only : Only 0 state_kinds.ps state_kinds.r state.Post
state_only κs a x y s t p q = p ∙ sym q

pub response_of_only : Only 0 response_of_kinds.ps response_of_kinds.r response_of.Post
response_of_only κs a x y s t p q = p ∙ sym q

pub density_only : Only 0 density_kinds.ps density_kinds.r density.Post
density_only κs a x y s t p q = p ∙ sym q
