-- Region 2, vapour up to 1073.15 K: 002, Eqs. (19) to (21), Tables A4 and A5; the formulas are those of `vapour`. Definitions only.
use Rattle.std.specs.Prelude.{false, List, [], ◌∷◌, pos, Float}
use Rattle.arith.specs.F64.{f64, ◌⊖◌}
use Rattle.arith.specs.Printed.{less, printed}
use Rattle.terms.specs.Sum.{Term, row}
use Rattle.arith.specs.Coefficients.{plus, minus}
use Rattle.properties.specs.Properties.{reduced_by, rooted_of}
use Rattle.vapour.specs.Vapour.{vapour_at, vapour_unrooted, vapour_response}
use Rattle.properties.specs.declared.State.{State}
use Rattle.properties.specs.declared.Unrooted.{Unrooted}
use Rattle.properties.specs.declared.Response.{Response}
use Rattle.properties.specs.declared.Point.{Point}
use Rattle.vapour.specs.declared.Vapour.{Vapour}

-- Table A4: J°, n° behind an I of 0, since the ideal-gas part has no power of π
unfoldable pub ideal2 : List Term
ideal2 =
    row (pos 0) (pos 0) (minus 96927686500217 (pos 1))
    ∷ row (pos 0) (pos 1) (plus 10086655968018 (pos 2))
    ∷ row (pos 0) (less 5) (minus 56087911283020 (less 2))
    ∷ row (pos 0) (less 4) (plus 71452738081455 (less 1))
    ∷ row (pos 0) (less 3) (minus 40710498223928 (pos 0))
    ∷ row (pos 0) (less 2) (plus 14240819171444 (pos 1))
    ∷ row (pos 0) (less 1) (minus 43839511319450 (pos 1))
    ∷ row (pos 0) (pos 2) (minus 28408632460772 (pos 0))
    ∷ row (pos 0) (pos 3) (plus 21268463753307 (less 1))
    ∷ []

-- Table A5: I, J, n
unfoldable pub residual2 : List Term
residual2 =
    row (pos 1) (pos 0) (minus 17731742473213 (less 2))
    ∷ row (pos 1) (pos 1) (minus 17834862292358 (less 1))
    ∷ row (pos 1) (pos 2) (minus 45996013696365 (less 1))
    ∷ row (pos 1) (pos 3) (minus 57581259083432 (less 1))
    ∷ row (pos 1) (pos 6) (minus 50325278727930 (less 1))
    ∷ row (pos 2) (pos 1) (minus 33032641670203 (less 4))
    ∷ row (pos 2) (pos 2) (minus 18948987516315 (less 3))
    ∷ row (pos 2) (pos 4) (minus 39392777243355 (less 2))
    ∷ row (pos 2) (pos 7) (minus 43797295650573 (less 1))
    ∷ row (pos 2) (pos 36) (minus 26674547914087 (less 4))
    ∷ row (pos 3) (pos 0) (plus 20481737692309 (less 7))
    ∷ row (pos 3) (pos 1) (plus 43870667284435 (less 6))
    ∷ row (pos 3) (pos 3) (minus 32277677238570 (less 4))
    ∷ row (pos 3) (pos 6) (minus 15033924542148 (less 2))
    ∷ row (pos 3) (pos 35) (minus 40668253562649 (less 1))
    ∷ row (pos 4) (pos 1) (minus 78847309559367 (less 9))
    ∷ row (pos 4) (pos 2) (plus 12790717852285 (less 7))
    ∷ row (pos 4) (pos 3) (plus 48225372718507 (less 6))
    ∷ row (pos 5) (pos 7) (plus 22922076337661 (less 5))
    ∷ row (pos 6) (pos 3) (minus 16714766451061 (less 10))
    ∷ row (pos 6) (pos 16) (minus 21171472321355 (less 2))
    ∷ row (pos 6) (pos 35) (minus 23895741934104 (pos 2))
    ∷ row (pos 7) (pos 0) (minus 59059564324270 (less 17))
    ∷ row (pos 7) (pos 11) (minus 12621808899101 (less 5))
    ∷ row (pos 7) (pos 25) (minus 38946842435739 (less 1))
    ∷ row (pos 8) (pos 8) (plus 11256211360459 (less 10))
    ∷ row (pos 8) (pos 36) (minus 82311340897998 (pos 1))
    ∷ row (pos 9) (pos 13) (plus 19809712802088 (less 7))
    ∷ row (pos 10) (pos 4) (plus 10406965210174 (less 18))
    ∷ row (pos 10) (pos 10) (minus 10234747095929 (less 12))
    ∷ row (pos 10) (pos 14) (minus 10018179379511 (less 8))
    ∷ row (pos 16) (pos 29) (minus 80882908646985 (less 10))
    ∷ row (pos 16) (pos 50) (plus 10693031879409 (pos 0))
    ∷ row (pos 18) (pos 57) (minus 33662250574171 (pos 0))
    ∷ row (pos 20) (pos 20) (plus 89185845355421 (less 24))
    ∷ row (pos 20) (pos 35) (plus 30629316876232 (less 12))
    ∷ row (pos 20) (pos 48) (minus 42002467698208 (less 5))
    ∷ row (pos 21) (pos 21) (minus 59056029685639 (less 25))
    ∷ row (pos 22) (pos 53) (plus 37826947613457 (less 5))
    ∷ row (pos 23) (pos 39) (minus 12768608934681 (less 14))
    ∷ row (pos 24) (pos 26) (plus 73087610595061 (less 28))
    ∷ row (pos 24) (pos 40) (plus 55414715350778 (less 16))
    ∷ row (pos 24) (pos 58) (minus 94369707241210 (less 6))
    ∷ []

-- R = 0.461526 kJ/(kg K), p* = 1 MPa, T* = 540 K
abbrev pub gas_constant2 : Float
gas_constant2 = printed false 461526 (less 6)

abbrev pub reducing_pressure2 : Float
reducing_pressure2 = f64 1

abbrev pub reducing_temperature2 : Float
reducing_temperature2 = f64 540

unfoldable pub point2 : Float → Float → Point
point2 p t = reduced_by gas_constant2 reducing_pressure2 reducing_temperature2 p t

-- The residual part is summed at π and τ - 0.5.
abbrev pub shifted2 : Float → Float
shifted2 τ = τ ⊖ printed false 5 (less 1)

-- Eqs. (19) to (21)
unfoldable pub gamma2 : Float → Float → Vapour
gamma2 p t = vapour_at ideal2 residual2 shifted2 (point2 p t)

-- Table 4
unfoldable pub unrooted_of2 : Float → Float → Vapour → Unrooted
unrooted_of2 p t γ = vapour_unrooted (point2 p t) γ

-- with w itself
unfoldable pub state_of2 : Float → Float → Vapour → State
state_of2 p t γ = rooted_of (unrooted_of2 p t γ)

-- The state at p and T
unfoldable pub state2 : Float → Float → State
state2 p t = state_of2 p t (gamma2 p t)

-- 001: α and κ
unfoldable pub response_of2 : Float → Float → Vapour → Response
response_of2 p t γ = vapour_response (point2 p t) γ

-- h and s alone
abbrev pub h2 : Float → Float → Float
h2 p t = (state2 p t).h

abbrev pub s2 : Float → Float → Float
s2 p t = (state2 p t).s
