-- The properties of a state from the dimensionless Gibbs free energy γ and its derivatives: 002, Tables 2 and 4, which differ only in the speed of sound.
-- R·T is formed first. Definitions only.
use Rattle.std.specs.Prelude.{Float}
use Rattle.std.specs.Float.Ieee.{neg}
use Rattle.arith.specs.F64.{f64, ◌⊖◌, ◌⊗◌, ◌⊘◌}
use Rattle.elementary.specs.Root.{root_of}
use Rattle.properties.specs.declared.State.{State}
use Rattle.properties.specs.declared.Unrooted.{Unrooted}
use Rattle.properties.specs.declared.Point.{Point}

-- p and T as a region reads them that has the gas constant R and reduces by pr = p* and tr = T*: π = p/p*, τ = T*/T
abbrev pub reduced_by : (R pr tr p t : Float) → Point
reduced_by R pr tr p t = record { r = R; p = p; t = t; pi = p ⊘ pr; tau = tr ⊘ t }

-- h = (R·T)·τ·γτ
abbrev pub enthalpy_of : Point → Float → Float
enthalpy_of x γτ = x.r ⊗ x.t ⊗ x.tau ⊗ γτ

-- s = R·(τ·γτ - γ)
abbrev pub entropy_of : Point → Float → Float → Float
entropy_of x γ γτ = x.r ⊗ (x.tau ⊗ γτ ⊖ γ)

-- All six, of w its square. `quotient` is what Tables 2 and 4 print for w²/(R·T), and w is in m/s: hence the second 1000.
unfoldable pub unrooted_of : Point → (γ γπ γτ γττ quotient : Float) → Unrooted
unrooted_of x γ γπ γτ γττ quotient =
    let RT = x.r ⊗ x.t in
    record {
      v = RT ⊗ x.pi ⊗ γπ ⊘ (f64 1000 ⊗ x.p);
      u = RT ⊗ (x.tau ⊗ γτ ⊖ x.pi ⊗ γπ);
      h = enthalpy_of x γτ;
      s = entropy_of x γ γτ;
      cp = neg x.r ⊗ (x.tau ⊗ x.tau) ⊗ γττ;
      ww = f64 1000 ⊗ RT ⊗ quotient;
    }

-- with w itself
unfoldable pub rooted_of : Unrooted → State
rooted_of a = record { v = a.v; u = a.u; h = a.h; s = a.s; cp = a.cp; w = root_of a.ww }
