-- What the desk may know of a phase: its region is 1 or 2 (`phase_region`), and names it (`phase_kept`). Assumes nothing.
use mathlib.Core.Path.{◌≡◌, refl}
use Prim.Native.Nat.{◌≤◌}
use native.Mathlib.Omega.{arith}
use Rattle.equations.specs.declared.Phase.{Phase}
use Rattle.equations.specs.declared.Phase.TheVariants.{Liquid, Vapour}
use Rattle.settle.specs.Phases.{region_of, phase_of}

pub phase_region : (phase : Phase) → (1 ≤ region_of phase) × (region_of phase ≤ 2)
phase_region Liquid = (omega arith, omega arith)
phase_region Vapour = (omega arith, omega arith)

pub phase_kept : (phase : Phase) → phase_of (region_of phase) ≡ phase
phase_kept Liquid = refl
phase_kept Vapour = refl
