-- The saturation line, region 4: 002, Eqs. (27), (28) and (55), Table A11, evaluated as printed at any argument. Definitions only.
use Rattle.std.specs.Prelude.{pos, Float}
use Rattle.std.specs.Float.Ieee.{neg}
use Rattle.arith.specs.F64.{f64, ◌⊕◌, ◌⊖◌, ◌⊗◌, ◌⊘◌}
use Rattle.elementary.specs.Root.{root_of, fourth_root_of}
use Rattle.arith.specs.Coefficients.{plus, minus}

-- Table A11
abbrev n₁ : Float
n₁ = plus 11670521452767 (pos 4)

abbrev n₂ : Float
n₂ = minus 72421316703206 (pos 6)

abbrev n₃ : Float
n₃ = minus 17073846940092 (pos 2)

abbrev n₄ : Float
n₄ = plus 12020824702470 (pos 5)

abbrev n₅ : Float
n₅ = minus 32325550322333 (pos 7)

abbrev n₆ : Float
n₆ = plus 14915108613530 (pos 2)

abbrev n₇ : Float
n₇ = minus 48232657361591 (pos 4)

abbrev n₈ : Float
n₈ = plus 40511340542057 (pos 6)

abbrev n₉ : Float
n₉ = minus 23855557567849 (pos 0)

abbrev n₁₀ : Float
n₁₀ = plus 65017534844798 (pos 3)

-- The coefficients of Eq. (28), quadratics in θ
abbrev A : Float → Float
A θ = θ ⊗ θ ⊕ n₁ ⊗ θ ⊕ n₂

abbrev B : Float → Float
B θ = n₃ ⊗ (θ ⊗ θ) ⊕ n₄ ⊗ θ ⊕ n₅

abbrev C : Float → Float
C θ = n₆ ⊗ (θ ⊗ θ) ⊕ n₇ ⊗ θ ⊕ n₈

-- what its root is taken of
abbrev pub discriminant : Float → Float
discriminant θ = B θ ⊗ B θ ⊖ f64 4 ⊗ A θ ⊗ C θ

-- θ of T
abbrev pub θOf : Float → Float
θOf t = t ⊕ n₉ ⊘ (t ⊖ n₁₀)

-- Eq. (28), in MPa for T in K; what it means, Pressure.antt says
unfoldable pub equation28 : Float → Float
equation28 t =
    let θ = θOf t in
    let x = f64 2 ⊗ C θ ⊘ (neg (B θ) ⊕ root_of (discriminant θ)) in
    x ⊗ x ⊗ x ⊗ x

-- Eq. (55), in K for p in MPa
unfoldable pub ts_of : Float → Float
ts_of p =
    let β = fourth_root_of p in
    let E = β ⊗ β ⊕ n₃ ⊗ β ⊕ n₆ in
    let F = n₁ ⊗ (β ⊗ β) ⊕ n₄ ⊗ β ⊕ n₇ in
    let G = n₂ ⊗ (β ⊗ β) ⊕ n₅ ⊗ β ⊕ n₈ in
    let D = f64 2 ⊗ G ⊘ (neg F ⊖ root_of (F ⊗ F ⊖ f64 4 ⊗ E ⊗ G)) in
    let c = n₁₀ ⊕ D in
    (c ⊖ root_of (c ⊗ c ⊖ f64 4 ⊗ (n₉ ⊕ n₁₀ ⊗ D))) ⊘ f64 2
