-- The definitions give the numbers that the papers print to check a program by, to every digit printed: for each equation one point of Tables A17, A19, A24 and
-- A28 of 002 and Tables 3 and 9 of 003, and h2ab(7). In region 2 the subregion is chosen by the definitions too. Shown by computing. Assumes nothing.
use mathlib.Core.Path.{◌≡◌, refl}
use mathlib.Core.Bool.{Bool, true, false, ◌&&◌}
use mathlib.Core.List.{List, [], ◌∷◌, map}
use Prim.Native.Nat.{ℕ, ◌+◌, ◌-◌, ◌*◌}
use lib.IntN.{ℤ, pos, ◌-ℤ◌}
use lib.Ieee.{Float, binary64, round, of_int, lt, le, add, sub, mul, div}
use Rattle.arith.specs.F64.{f64}
use Rattle.arith.specs.Printed.{less, printed}
use Rattle.arith.specs.Power.{raised, power_of}
use Rattle.elementary.specs.Root.{floor_root, near_root, root_units, root_of, fourth_root_of}
use Rattle.terms.specs.Sum.{sum_of, sum_from, plus, term, gone, scaled}
use Rattle.boundaries.specs.Boundaries.{p2bc}
use Rattle.backward.specs.Equation.{sum_at}
use Rattle.backward.specs.T1ph as T1ph
use Rattle.backward.specs.T1ps as T1ps
use Rattle.backward.specs.T2aph as T2aph
use Rattle.backward.specs.T2bph as T2bph
use Rattle.backward.specs.T2cph as T2cph
use Rattle.backward.specs.T2aps as T2aps
use Rattle.backward.specs.T2bps as T2bps
use Rattle.backward.specs.T2cps as T2cps
use Rattle.backward.specs.P1hs as P1hs
use Rattle.backward.specs.P2ahs as P2ahs
use Rattle.backward.specs.P2bhs as P2bhs
use Rattle.backward.specs.P2chs as P2chs
use Rattle.subregions.specs.H2ab.{h2ab}
use Rattle.subregions.specs.Subregions.{is2a, by_ph, by_ps, by_hs}
use Rattle.backward.specs.Region2.{chosen, t2ph, t2ps, p2hs}

-- a value worked out, and what the paper prints for it: digits · 10^power
pub record Check : Type 0 where
  pub value : Float
  pub digits : ℕ
  pub power : ℤ

abbrev pub check : Float → ℕ → ℤ → Check
check value digits power = record { value = value; digits = digits; power = power }

-- the value is the printed one to its last digit: it lies within half a unit of it
abbrev pub agrees : Check → Bool
agrees x =
    let least = printed false (x.digits * 10 - 5) (x.power -ℤ pos 1) in
    let most = printed false (x.digits * 10 + 5) (x.power -ℤ pos 1) in
    let v = x.value in
    le least v && le v most

abbrev pub checks : List Check
checks =
    check (T1ph.t1ph (f64 3) (f64 500)) 391798509 (less 6)
    ∷ check (T1ps.t1ps (f64 3) (printed false 5 (less 1))) 307842258 (less 6)
    ∷ check (t2ph (f64 3) (f64 3000)) 575373370 (less 6)
    ∷ check (t2ph (f64 5) (f64 3500)) 801299102 (less 6)
    ∷ check (t2ph (f64 40) (f64 2700)) 743056411 (less 6)
    ∷ check (t2ps (printed false 1 (less 1)) (printed false 75 (less 1))) 399517097 (less 6)
    ∷ check (t2ps (f64 8) (f64 6)) 600484040 (less 6)
    ∷ check (t2ps (f64 20) (printed false 575 (less 2))) 697992849 (less 6)
    ∷ check (P1hs.p1hs (f64 1500) (printed false 34 (less 1))) 5868294423 (less 8)
    ∷ check (p2hs (f64 2800) (printed false 65 (less 1))) 1371012767 (less 9)
    ∷ check (p2hs (f64 3600) (f64 6)) 8395519209 (less 8)
    ∷ check (p2hs (f64 2800) (printed false 51 (less 1))) 9439202060 (less 8)
    ∷ check (h2ab (f64 7)) 3376437884 (less 6)
    ∷ []

pub worked : map agrees checks ≡ map (λ x. true) checks
unfolding T1ph.t1ph T1ph.arguments T1ph.table T1ps.t1ps T1ps.arguments T1ps.table T2aph.t2aph T2aph.arguments T2aph.table T2bph.t2bph T2bph.arguments T2bph.table T2cph.t2cph T2cph.arguments T2cph.table T2aps.t2aps T2aps.arguments T2aps.table T2bps.t2bps T2bps.arguments T2bps.table T2cps.t2cps T2cps.arguments T2cps.table P1hs.p1hs P1hs.arguments P1hs.table P2ahs.p2ahs P2ahs.arguments P2ahs.table P2bhs.p2bhs P2bhs.arguments P2bhs.table P2chs.p2chs P2chs.arguments P2chs.table h2ab p2bc is2a by_ph by_ps by_hs chosen t2ph t2ps p2hs sum_at sum_of sum_from plus term gone scaled power_of raised fourth_root_of root_of root_units near_root floor_root add sub mul div lt le round of_int printed
worked = refl
