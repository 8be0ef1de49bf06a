-- Wet states: saturated liquid and vapour mixed by the quality. Definitions only.
use Rattle.std.specs.Prelude.{Float}
use Rattle.arith.specs.F64.{◌⊕◌, ◌⊖◌, ◌⊗◌, ◌⊘◌}
use Rattle.properties.specs.declared.State.{State}
use Rattle.liquid.specs.Region1.{state1}
use Rattle.steam.specs.Region2.{state2}
use Rattle.workings.specs.Workings.{given_of}
use Rattle.states.specs.Marks.{verified_of}
use Rattle.workings.specs.declared.Given.{Given}
use Rattle.states.specs.declared.Wet.{Wet}

-- the quality of a wet y between y' of saturated liquid and y'' of saturated vapour
abbrev pub quality : Float → Float → Float → Float
quality y y' y'' = (y ⊖ y') ⊘ (y'' ⊖ y')

-- By 004: of the saturated liquid ' and vapour '', each property is a' + x·(a'' - a').
abbrev pub mixed : Float → Float → Float → Float
mixed x a' a'' = a' ⊕ x ⊗ (a'' ⊖ a')

unfoldable pub mixture_of : Given → Float → Float → Float → State → State → Wet
mixture_of given p y t liquid vapour =
    let y' = given_of given liquid.h liquid.s in
    let y'' = given_of given vapour.h vapour.s in
    let x = quality y y' y'' in
    let h = mixed x liquid.h vapour.h in
    let s = mixed x liquid.s vapour.s in
    record {
      p = p;
      t = t;
      v = mixed x liquid.v vapour.v;
      u = mixed x liquid.u vapour.u;
      h = h;
      s = s;
      x = x;
      verified = verified_of given h s y;
    }

unfoldable pub wet_of : Given → Float → Float → Float → Wet
wet_of given p y t = mixture_of given p y t (state1 p t) (state2 p t)
