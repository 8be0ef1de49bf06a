-- Region 5, vapour above 1073.15 K, as revised in 2007: R7-97, Eqs. (32) to (34), Tables 37 and 38; the formulas are those of `vapour`. Definitions only.
use Rattle.std.specs.Prelude.{false, List, [], ◌∷◌, pos, Float}
use Rattle.arith.specs.F64.{f64}
use Rattle.arith.specs.Printed.{less, printed}
use Rattle.terms.specs.Sum.{Term, row}
use Rattle.arith.specs.Coefficients.{plus, minus}
use Rattle.properties.specs.Properties.{reduced_by, rooted_of}
use Rattle.vapour.specs.Vapour.{vapour_at, vapour_unrooted, vapour_response}
use Rattle.properties.specs.declared.State.{State}
use Rattle.properties.specs.declared.Unrooted.{Unrooted}
use Rattle.properties.specs.declared.Response.{Response}
use Rattle.properties.specs.declared.Point.{Point}
use Rattle.vapour.specs.declared.Vapour.{Vapour}

-- Table 37: J°, n° behind an I of 0, since the ideal-gas part has no power of π
unfoldable pub ideal5 : List Term
ideal5 =
    row (pos 0) (pos 0) (minus 13179983674201 (pos 2))
    ∷ row (pos 0) (pos 1) (plus 68540841634434 (pos 1))
    ∷ row (pos 0) (less 3) (minus 24805148933466 (less 1))
    ∷ row (pos 0) (less 2) (plus 36901534980333 (pos 0))
    ∷ row (pos 0) (less 1) (minus 31161318213925 (pos 1))
    ∷ row (pos 0) (pos 2) (minus 32961626538917 (pos 0))
    ∷ []

-- Table 38: I, J, n
unfoldable pub residual5 : List Term
residual5 =
    row (pos 1) (pos 1) (plus 15736404855259 (less 2))
    ∷ row (pos 1) (pos 2) (plus 90153761673944 (less 3))
    ∷ row (pos 1) (pos 3) (minus 50270077677648 (less 2))
    ∷ row (pos 2) (pos 3) (plus 22440037409485 (less 5))
    ∷ row (pos 2) (pos 9) (minus 41163275453471 (less 5))
    ∷ row (pos 3) (pos 7) (plus 37919454822955 (less 7))
    ∷ []

-- R = 0.461526 kJ/(kg K), p* = 1 MPa, T* = 1000 K
abbrev pub gas_constant5 : Float
gas_constant5 = printed false 461526 (less 6)

abbrev pub reducing_pressure5 : Float
reducing_pressure5 = f64 1

abbrev pub reducing_temperature5 : Float
reducing_temperature5 = f64 1000

unfoldable pub point5 : Float → Float → Point
point5 p t = reduced_by gas_constant5 reducing_pressure5 reducing_temperature5 p t

-- The residual part is summed at π and τ, with no shift.
abbrev pub shifted5 : Float → Float
shifted5 τ = τ

-- Eqs. (32) to (34)
unfoldable pub gamma5 : Float → Float → Vapour
gamma5 p t = vapour_at ideal5 residual5 shifted5 (point5 p t)

-- 002, Table 4
unfoldable pub unrooted_of5 : Float → Float → Vapour → Unrooted
unrooted_of5 p t γ = vapour_unrooted (point5 p t) γ

-- with w itself
unfoldable pub state_of5 : Float → Float → Vapour → State
state_of5 p t γ = rooted_of (unrooted_of5 p t γ)

-- The state at p and T
unfoldable pub state5 : Float → Float → State
state5 p t = state_of5 p t (gamma5 p t)

-- 001: α and κ
unfoldable pub response_of5 : Float → Float → Vapour → Response
response_of5 p t γ = vapour_response (point5 p t) γ

-- h and s alone
abbrev pub h5 : Float → Float → Float
h5 p t = (state5 p t).h

abbrev pub s5 : Float → Float → Float
s5 p t = (state5 p t).s
