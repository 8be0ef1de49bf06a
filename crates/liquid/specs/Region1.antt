-- Region 1, liquid water: 002, Eq. (15), Tables 2, 3 and A2. The thermal expansion and the compressibility are those of 001. Definitions only.
use Rattle.std.specs.Prelude.{ℕ, false, List, [], ◌∷◌, pos, Float}
use Rattle.std.specs.Float.Ieee.{neg}
use Rattle.arith.specs.F64.{f64, ◌⊖◌, ◌⊗◌, ◌⊘◌}
use Rattle.arith.specs.Printed.{less, printed}
use Rattle.terms.specs.Sum.{Term, row, sum_of}
use Rattle.terms.specs.Six.{six_of}
use Rattle.terms.specs.declared.Six.{Six}
use Rattle.arith.specs.Coefficients.{plus, minus}
use Rattle.properties.specs.Properties.{reduced_by, unrooted_of, rooted_of}
use Rattle.properties.specs.declared.State.{State}
use Rattle.properties.specs.declared.Unrooted.{Unrooted}
use Rattle.properties.specs.declared.Response.{Response}
use Rattle.properties.specs.declared.Point.{Point}
use Rattle.liquid.specs.declared.Liquid.{Liquid}

-- Table A2: I, J, n
unfoldable pub table1 : List Term
table1 =
    row (pos 0) (less 2) (plus 14632971213167 (pos 0))
    ∷ row (pos 0) (less 1) (minus 84548187169114 (pos 0))
    ∷ row (pos 0) (pos 0) (minus 37563603672040 (pos 1))
    ∷ row (pos 0) (pos 1) (plus 33855169168385 (pos 1))
    ∷ row (pos 0) (pos 2) (minus 95791963387872 (pos 0))
    ∷ row (pos 0) (pos 3) (plus 15772038513228 (pos 0))
    ∷ row (pos 0) (pos 4) (minus 16616417199501 (less 1))
    ∷ row (pos 0) (pos 5) (plus 81214629983568 (less 3))
    ∷ row (pos 1) (less 9) (plus 28319080123804 (less 3))
    ∷ row (pos 1) (less 7) (minus 60706301565874 (less 3))
    ∷ row (pos 1) (less 1) (minus 18990068218419 (less 1))
    ∷ row (pos 1) (pos 0) (minus 32529748770505 (less 1))
    ∷ row (pos 1) (pos 1) (minus 21841717175414 (less 1))
    ∷ row (pos 1) (pos 3) (minus 52838357969930 (less 4))
    ∷ row (pos 2) (less 3) (minus 47184321073267 (less 3))
    ∷ row (pos 2) (pos 0) (minus 30001780793026 (less 3))
    ∷ row (pos 2) (pos 1) (plus 47661393906987 (less 4))
    ∷ row (pos 2) (pos 3) (minus 44141845330846 (less 5))
    ∷ row (pos 2) (pos 17) (minus 72694996297594 (less 15))
    ∷ row (pos 3) (less 4) (minus 31679644845054 (less 4))
    ∷ row (pos 3) (pos 0) (minus 28270797985312 (less 5))
    ∷ row (pos 3) (pos 6) (minus 85205128120103 (less 9))
    ∷ row (pos 4) (less 5) (minus 22425281908000 (less 5))
    ∷ row (pos 4) (less 2) (minus 65171222895601 (less 6))
    ∷ row (pos 4) (pos 10) (minus 14341729937924 (less 12))
    ∷ row (pos 5) (less 8) (minus 40516996860117 (less 6))
    ∷ row (pos 8) (less 11) (minus 12734301741641 (less 8))
    ∷ row (pos 8) (less 6) (minus 17424871230634 (less 9))
    ∷ row (pos 21) (less 29) (minus 68762131295531 (less 18))
    ∷ row (pos 23) (less 31) (plus 14478307828521 (less 19))
    ∷ row (pos 29) (less 38) (plus 26335781662795 (less 22))
    ∷ row (pos 30) (less 39) (minus 11947622640071 (less 22))
    ∷ row (pos 31) (less 40) (plus 18228094581404 (less 23))
    ∷ row (pos 32) (less 41) (minus 93537087292458 (less 25))
    ∷ []

-- R = 0.461526 kJ/(kg K), p* = 16.53 MPa, T* = 1386 K
abbrev pub gas_constant1 : Float
gas_constant1 = printed false 461526 (less 6)

abbrev pub reducing_pressure1 : Float
reducing_pressure1 = printed false 1653 (less 2)

abbrev pub reducing_temperature1 : Float
reducing_temperature1 = f64 1386

unfoldable pub point1 : Float → Float → Point
point1 p t = reduced_by gas_constant1 reducing_pressure1 reducing_temperature1 p t

-- The arguments of Eq. (15), A = 7.1 - π and B = τ - 1.222
abbrev pub A1 : Point → Float
A1 x = printed false 71 (less 1) ⊖ x.pi

abbrev pub B1 : Point → Float
B1 x = x.tau ⊖ printed false 1222 (less 3)

-- Its sum, or the derivative of the orders asked
unfoldable pub sum1 : Point → ℕ → ℕ → Float
sum1 x da db = sum_of table1 da db (A1 x) (B1 x)

-- all six of them
abbrev pub six1 : Point → Six
six1 x = six_of table1 (A1 x) (B1 x)

-- Eq. (15) and Table 3: the inner sign of 7.1 - π negates the finished sum once for each derivative by π, so γππ twice, which leaves it as it is
unfoldable pub gamma1 : Float → Float → Liquid
gamma1 p t =
    let x = point1 p t in
    record { g = sum1 x 0 0; gp = neg (sum1 x 1 0); gpp = sum1 x 2 0; gt = sum1 x 0 1; gtt = sum1 x 0 2; gpt = neg (sum1 x 1 1) }

-- Table 2. w²/RT = γπ² / ((γπ - τ·γπτ)² / (τ²·γττ) - γππ)
abbrev pub liquid_unrooted : Point → Liquid → Unrooted
liquid_unrooted x γ =
    let d = γ.gp ⊖ x.tau ⊗ γ.gpt in
    unrooted_of x γ.g γ.gp γ.gt γ.gtt
    (γ.gp ⊗ γ.gp ⊘ (d ⊗ d ⊘ (x.tau ⊗ x.tau ⊗ γ.gtt) ⊖ γ.gpp))

unfoldable pub unrooted_of1 : Float → Float → Liquid → Unrooted
unrooted_of1 p t γ = liquid_unrooted (point1 p t) γ

-- with w itself
unfoldable pub state_of1 : Float → Float → Liquid → State
state_of1 p t γ = rooted_of (unrooted_of1 p t γ)

-- The state at p and T
unfoldable pub state1 : Float → Float → State
state1 p t = state_of1 p t (gamma1 p t)

-- 001: α = (1/T)·(1 - τ·γπτ/γπ) and κ = (1/P)·(-(π·γππ/γπ)), with P = 1000·p in kPa
abbrev pub liquid_response : Point → Liquid → Response
liquid_response x γ = record {
  alpha = f64 1 ⊘ x.t ⊗ (f64 1 ⊖ x.tau ⊗ γ.gpt ⊘ γ.gp);
  kappa = f64 1 ⊘ (f64 1000 ⊗ x.p) ⊗ neg (x.pi ⊗ γ.gpp ⊘ γ.gp);
}

unfoldable pub response_of1 : Float → Float → Liquid → Response
response_of1 p t γ = liquid_response (point1 p t) γ

-- h and s alone
abbrev pub h1 : Float → Float → Float
h1 p t = (state1 p t).h

abbrev pub s1 : Float → Float → Float
s1 p t = (state1 p t).s
