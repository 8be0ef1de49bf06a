-- The six sums of a residual part as two walks give them. No promise of a public call cites this file. Definitions only.
use Rattle.terms.specs.declared.Six.{Six}
use Rattle.vapour.specs.declared.parts.ByPi.{ByPi}
use Rattle.vapour.specs.declared.parts.ByTau.{ByTau}

-- the sum and its derivatives by π
abbrev pub by_pi : Six → ByPi
by_pi s = record { sum = s.f; first = s.fa; second = s.faa }

-- its derivatives by τ, and by both
abbrev pub by_tau : Six → ByTau
by_tau s = record { first = s.fb; second = s.fbb; mixed = s.fab }
