-- Region 3, water and steam about the critical point: 002, Eq. (25), Tables 9, 10 and A9. α, β and cv are those of 001. Definitions only.
use Rattle.std.specs.Prelude.{false, List, [], ◌∷◌, pos, Float}
use Rattle.std.specs.Float.Ieee.{neg}
use Rattle.arith.specs.F64.{f64, ◌⊕◌, ◌⊖◌, ◌⊗◌, ◌⊘◌}
use Rattle.arith.specs.Printed.{less, printed}
use Rattle.arith.specs.Coefficients.{plus, minus}
use Rattle.elementary.specs.Log.{log_of}
use Rattle.terms.specs.Sum.{Term, row}
use Rattle.terms.specs.Six.{six_of}
use Rattle.terms.specs.declared.Six.{Six}
use Rattle.properties.specs.Properties.{rooted_of}
use Rattle.properties.specs.declared.State.{State}
use Rattle.properties.specs.declared.Unrooted.{Unrooted}
use Rattle.properties.specs.declared.PressureResponse.{PressureResponse}
use Rattle.dense.specs.declared.DensePoint.{DensePoint}
use Rattle.dense.specs.declared.Dense.{Dense}

-- Table A9, its first row: the coefficient of ln δ
abbrev pub n3 : Float
n3 = plus 10658070028513 (pos 1)

-- and the others, rows 2 to 40: I, J, n
unfoldable pub table3 : List Term
table3 =
    row (pos 0) (pos 0) (minus 15732845290239 (pos 2))
    ∷ row (pos 0) (pos 1) (plus 20944396974307 (pos 2))
    ∷ row (pos 0) (pos 2) (minus 76867707878716 (pos 1))
    ∷ row (pos 0) (pos 7) (plus 26185947787954 (pos 1))
    ∷ row (pos 0) (pos 10) (minus 28080781148620 (pos 1))
    ∷ row (pos 0) (pos 12) (plus 12053369696517 (pos 1))
    ∷ row (pos 0) (pos 23) (minus 84566812812502 (less 2))
    ∷ row (pos 1) (pos 2) (minus 12654315477714 (pos 1))
    ∷ row (pos 1) (pos 6) (minus 11524407806681 (pos 1))
    ∷ row (pos 1) (pos 15) (plus 88521043984318 (pos 0))
    ∷ row (pos 1) (pos 17) (minus 64207765181607 (pos 0))
    ∷ row (pos 2) (pos 0) (plus 38493460186671 (pos 0))
    ∷ row (pos 2) (pos 2) (minus 85214708824206 (pos 0))
    ∷ row (pos 2) (pos 6) (plus 48972281541877 (pos 1))
    ∷ row (pos 2) (pos 7) (minus 30502617256965 (pos 1))
    ∷ row (pos 2) (pos 22) (plus 39420536879154 (less 1))
    ∷ row (pos 2) (pos 26) (plus 12558408424308 (pos 0))
    ∷ row (pos 3) (pos 0) (minus 27999329698710 (pos 0))
    ∷ row (pos 3) (pos 2) (plus 13899799569460 (pos 1))
    ∷ row (pos 3) (pos 4) (minus 20189915023570 (pos 1))
    ∷ row (pos 3) (pos 16) (minus 82147637173963 (less 2))
    ∷ row (pos 3) (pos 26) (minus 47596035734923 (pos 0))
    ∷ row (pos 4) (pos 0) (plus 43984074473500 (less 1))
    ∷ row (pos 4) (pos 2) (minus 44476435428739 (pos 0))
    ∷ row (pos 4) (pos 4) (plus 90572070719733 (pos 0))
    ∷ row (pos 4) (pos 26) (plus 70522450087967 (pos 0))
    ∷ row (pos 5) (pos 1) (plus 10770512626332 (pos 0))
    ∷ row (pos 5) (pos 3) (minus 32913623258954 (pos 0))
    ∷ row (pos 5) (pos 26) (minus 50871062041158 (pos 0))
    ∷ row (pos 6) (pos 0) (minus 22175400873096 (less 1))
    ∷ row (pos 6) (pos 2) (plus 94260751665092 (less 1))
    ∷ row (pos 6) (pos 26) (plus 16436278447961 (pos 0))
    ∷ row (pos 7) (pos 2) (minus 13503372241348 (less 1))
    ∷ row (pos 8) (pos 26) (minus 14834345352472 (less 1))
    ∷ row (pos 9) (pos 2) (plus 57922953628084 (less 3))
    ∷ row (pos 9) (pos 26) (plus 32308904703711 (less 2))
    ∷ row (pos 10) (pos 0) (plus 80964802996215 (less 4))
    ∷ row (pos 10) (pos 1) (minus 16557679795037 (less 3))
    ∷ row (pos 11) (pos 26) (minus 44923899061815 (less 4))
    ∷ []

-- R = 0.461526 kJ/(kg K), and the critical density ρ* = 322 kg/m³ and temperature T* = 647.096 K, by which it reduces
abbrev pub R3 : Float
R3 = printed false 461526 (less 6)

abbrev pub density* : Float
density* = f64 322

abbrev pub T* : Float
T* = printed false 647096 (less 3)

-- δ = ρ/ρ* and τ = T*/T
unfoldable pub point3 : Float → Float → DensePoint
point3 ρ t = record { density = ρ; t = t; delta = ρ ⊘ density*; tau = T* ⊘ t }

-- The sum of Eq. (25) and its derivatives
abbrev pub six3 : DensePoint → Six
six3 x = six_of table3 x.delta x.tau

-- Table 10's φδ
abbrev pub slope_of3 : DensePoint → Float → Float
slope_of3 x sum = n3 ⊘ x.delta ⊕ sum

-- Eq. (25) and Table 10: what n₁·ln δ brings stands before the sum
unfoldable pub phi_of3 : DensePoint → Six → Dense
phi_of3 x sums =
    let δ = x.delta in
    record {
      f = n3 ⊗ log_of δ ⊕ sums.f;
      fd = slope_of3 x sums.fa;
      fdd = neg (n3 ⊘ (δ ⊗ δ)) ⊕ sums.faa;
      ft = sums.fb;
      ftt = sums.fbb;
      fdt = sums.fab;
    }

unfoldable pub phi3 : Float → Float → Dense
phi3 ρ t = let x = point3 ρ t in phi_of3 x (six3 x)

-- Table 9, p = ρ·R·T·δ·φδ; in MPa
abbrev pub pressure_by3 : DensePoint → Float → Float
pressure_by3 x φδ = x.density ⊗ (R3 ⊗ x.t) ⊗ x.delta ⊗ φδ ⊘ f64 1000

unfoldable pub pressure_of3 : Float → Float → Dense → Float
pressure_of3 ρ t φ = pressure_by3 (point3 ρ t) φ.fd

-- The equation's pressure at ρ and T
abbrev pub pressure3 : Float → Float → Float
pressure3 ρ t = pressure_of3 ρ t (phi3 ρ t)

-- Table 9, the six properties, of w its square: c = δ·φδ - δ·τ·φδτ and k = 2·δ·φδ + δ²·φδδ, which cp and w share. w is in m/s: hence the 1000.
unfoldable pub unrooted_at3 : DensePoint → Dense → Unrooted
unrooted_at3 x φ =
    let δ = x.delta in
    let τ = x.tau in
    let RT = R3 ⊗ x.t in
    let c = δ ⊗ φ.fd ⊖ δ ⊗ τ ⊗ φ.fdt in
    let k = f64 2 ⊗ δ ⊗ φ.fd ⊕ δ ⊗ δ ⊗ φ.fdd in
    record {
      v = f64 1 ⊘ x.density;
      u = RT ⊗ τ ⊗ φ.ft;
      h = RT ⊗ (τ ⊗ φ.ft ⊕ δ ⊗ φ.fd);
      s = R3 ⊗ (τ ⊗ φ.ft ⊖ φ.f);
      cp = R3 ⊗ (neg (τ ⊗ τ) ⊗ φ.ftt ⊕ c ⊗ c ⊘ k);
      ww = f64 1000 ⊗ RT ⊗ (k ⊖ c ⊗ c ⊘ (τ ⊗ τ ⊗ φ.ftt));
    }

unfoldable pub unrooted_of3 : Float → Float → Dense → Unrooted
unrooted_of3 ρ t φ = unrooted_at3 (point3 ρ t) φ

-- with w itself
unfoldable pub state_of3 : Float → Float → Dense → State
state_of3 ρ t φ = rooted_of (unrooted_of3 ρ t φ)

-- The state at ρ and T
unfoldable pub state3 : Float → Float → State
state3 ρ t = state_of3 ρ t (phi3 ρ t)

-- 001: α = (1/T)·(1 - τ·φδτ/φδ), β = ρ·(2 + δ·φδδ/φδ) and cv = -R·τ²·φττ
unfoldable pub response_at3 : DensePoint → Dense → PressureResponse
response_at3 x φ =
    record {
      alpha = f64 1 ⊘ x.t ⊗ (f64 1 ⊖ x.tau ⊗ φ.fdt ⊘ φ.fd);
      beta = x.density ⊗ (f64 2 ⊕ x.delta ⊗ φ.fdd ⊘ φ.fd);
      cv = neg R3 ⊗ (x.tau ⊗ x.tau) ⊗ φ.ftt;
    }

unfoldable pub response_of3 : Float → Float → Dense → PressureResponse
response_of3 ρ t φ = response_at3 (point3 ρ t) φ
