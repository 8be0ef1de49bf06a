-- On which side of the saturation line a temperature lies, Ts being the line's, and which temperatures past the line are pulled to it. A comparison with NaN is
-- false: where T or Ts is NaN, T is neither past the line nor beside it. Definitions only.
use Rattle.std.specs.Prelude.{Bool, false, cond, ◌&&◌, Float}
use Rattle.std.specs.Float.Ieee.{lt, le}
use Rattle.arith.specs.F64.{◌⊖◌}
use Rattle.arith.specs.Printed.{less, printed}
use Rattle.equations.specs.declared.Phase.{Phase}
use Rattle.equations.specs.declared.Phase.TheVariants.{Liquid, Vapour}

-- past the line, on the other phase's side: liquid above Ts, vapour below it
abbrev pub is_past : Phase → Float → Float → Bool
is_past Liquid ts t = lt ts t
is_past Vapour ts t = lt t ts

-- beside the line, on its own side or on the line: liquid at most at Ts, vapour at least
abbrev pub is_beside : Phase → Float → Float → Bool
is_beside Liquid ts t = le t ts
is_beside Vapour ts t = le ts t

-- how far past the line, in K
abbrev pub past_by : Phase → Float → Float → Float
past_by Liquid ts t = t ⊖ ts
past_by Vapour ts t = ts ⊖ t

-- a T past the line becomes Ts, any other stays as it is
unfoldable pub pulled_to : Phase → Float → Float → Float
pulled_to phase ts t = cond (is_past phase ts t) ts t

-- how far past the line, in K, a candidate of (h,s) is still pulled to it
abbrev pub reach : Float
reach = printed false 25 (less 3)

-- past the line, and by at most that
unfoldable pub in_reach : Phase → Float → Float → Bool
in_reach phase ts t = is_past phase ts t && le (past_by phase ts t) reach
