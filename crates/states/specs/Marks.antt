-- Single-phase states with their marks. Definitions only.
use Rattle.std.specs.Prelude.{Bool, true, false, cond, ◌&&◌, Float}
use Rattle.std.specs.Float.Ieee.{neg, lt, le}
use Rattle.arith.specs.F64.{f64, ◌⊖◌}
use Rattle.arith.specs.Printed.{less, printed}
use Rattle.dense.specs.Region3.{pressure3}
use Rattle.dense.specs.Density.{density3}
use Rattle.properties.specs.declared.State.{State}
use Rattle.properties.specs.Properties.{rooted_of}
use Rattle.workings.specs.Workings.{unrooted_at, state_at, worked_at, given_of}
use Rattle.workings.specs.declared.Given.{Given}
use Rattle.states.specs.declared.Single.{Single}
use Rattle.states.specs.declared.Full.{Full}
use Rattle.states.specs.declared.marks.Met.{Met}
use Rattle.equations.specs.declared.Equation.{Equation}
use Rattle.equations.specs.declared.Equation.TheVariants.{Region1, Region2, Region3, Region5}

-- ---- the mark

-- within a margin, the margin itself included: the difference is taken in f64 and its sign dropped
unfoldable pub near : Float → Float → Float → Bool
near margin x y = let d = x ⊖ y in le (cond (lt d (f64 0)) (neg d) d) margin

-- of a verified state: h within 0.08 kJ/kg, s within 0.0001 kJ/(kg K), p within 0.001 MPa
abbrev pub h_margin : Float
h_margin = printed false 8 (less 2)

abbrev pub s_margin : Float
s_margin = printed false 1 (less 4)

abbrev pub p_margin : Float
p_margin = printed false 1 (less 3)

-- whether an h and an s come back to the one that was asked
unfoldable pub verified_of : Given → Float → Float → Float → Bool
verified_of given h s y = near (given_of given h_margin s_margin) (given_of given h s) y

-- both h and s of a state within their margins
abbrev pub both_near : Float → Float → State → Float → Float → Bool
both_near h_margin s_margin a h s = near h_margin a.h h && near s_margin a.s s

-- whether a state comes back to the p and T asked: regions 1, 2 and 5 are worked at them, and region 3 at the density found, where its pressure is to be p
abbrev pub met_at : Equation → Float → Float → Bool
met_at Region1 p t = true
met_at Region2 p t = true
met_at Region3 p t = near p_margin (pressure3 (density3 p t) t) p
met_at Region5 p t = true

-- ---- states

-- the six properties, of w its square, with that mark: region 3's are of one density
abbrev pub met_of : Equation → Float → Float → Met
met_of equation p t = record { unrooted = unrooted_at equation p t; met = met_at equation p t }

-- of one phase, by an equation at p and T, with a mark
abbrev pub single_of : Equation → Float → Float → Bool → Single
single_of equation p t verified = record { equation = equation; p = p; t = t; state = state_at equation p t; verified = verified }

-- the same, marked by the h or s asked
unfoldable pub marked_of : Given → Equation → Float → Float → Float → Single
marked_of given equation p y t = let a = state_at equation p t in single_of equation p t (verified_of given a.h a.s y)

-- the same, marked by both h and s
abbrev pub marked_both_of : Equation → Float → Float → Float → Float → Single
marked_both_of equation p t h s = single_of equation p t (both_near h_margin s_margin (state_at equation p t) h s)

-- ---- as a state is carried: with w squared yet, so that its root is taken only where it is handed out, and with its slopes, so that nothing is summed twice

abbrev pub full_of : Single → Full
full_of a = record { equation = a.equation; p = a.p; t = a.t; worked = worked_at a.equation a.p a.t; verified = a.verified }

-- as it is handed out
abbrev pub handed_out : Full → Single
handed_out a = record { equation = a.equation; p = a.p; t = a.t; state = rooted_of a.worked.unrooted; verified = a.verified }
