-- How (p,h) or (p,s) stands to the saturation line: its place, and with it the Ts(p) that decided it, so that a temperature of that phase is compared with Ts(p) and
-- nothing is worked twice. Definitions only.
use Rattle.std.specs.Prelude.{cond, Float, Result, Ok, Err}
use Rattle.refusals.specs.declared.Refusal.{Refusal}
use Rattle.saturation_line.specs.Printed.{ts_of}
use Rattle.workings.specs.declared.Given.{Given}
use Rattle.places.specs.Places.{saturates, place_py}
use Rattle.places.specs.declared.Side.{Side}
use Rattle.places.specs.declared.Standing.{Standing}
use Rattle.places.specs.declared.Standing.TheVariants.{Beside, Wet, Beyond}

-- up to P, by Ts(p)
abbrev pub beside_line : Float → Side → Standing
beside_line ts (Side.Phase phase) = Beside phase ts
beside_line ts (Side.Wet t) = Wet t

-- above P, where the line no longer parts regions 1 and 2
abbrev pub beyond_line : Side → Standing
beyond_line (Side.Phase phase) = Beyond phase
beyond_line (Side.Wet t) = Wet t

-- what is refused stays so
unfoldable pub standing_of : {E : Type 0} → Float → Result Side E → Result Standing E
standing_of p (Ok side) = Ok (cond (saturates p) (beside_line (ts_of p) side) (beyond_line side))
standing_of p (Err refusal) = Err refusal

unfoldable pub standing_py : Given → Float → Float → Result Standing Refusal
standing_py given p y = standing_of p (place_py given p y)

-- the side alone
abbrev pub side_of : Standing → Side
side_of (Beside phase ts) = Side.Phase phase
side_of (Wet t) = Side.Wet t
side_of (Beyond phase) = Side.Phase phase

-- and of a standing or a refusal the place
abbrev pub place_of : Result Standing Refusal → Result Side Refusal
place_of (Ok standing) = Ok (side_of standing)
place_of (Err refusal) = Err refusal
