-- Derivatives of a single-phase state, by 001: for properties z, x, y among p, T, v, u, h, s, g, f, numbered 1 to 8, (∂z/∂x) at constant y is
-- (z_p·y_T - z_T·y_p) / (x_p·y_T - x_T·y_p) for an equation in p and T, and the same by v and T for one in v and T. p is taken in kPa, so that v·p is in kJ/kg.
-- Definitions only.
use Rattle.std.specs.Prelude.{◌≡◌, ℕ, ◌-◌, Bool, false, cond, not, ◌&&◌, [], ◌∷◌, leb, get_or, Float, Result, Ok, Err, MatchResult}
use Rattle.std.specs.Float.{nan}
use Rattle.std.specs.Float.Ieee.{neg, eq}
use Rattle.arith.specs.F64.{f64, ◌⊕◌, ◌⊖◌, ◌⊗◌, ◌⊘◌}
use Rattle.arith.specs.Bits.{finite}
use Rattle.properties.specs.declared.Unrooted.{Unrooted}
use Rattle.properties.specs.declared.Response.{Response}
use Rattle.properties.specs.declared.PressureResponse.{PressureResponse}
use Rattle.slopes.specs.declared.Row.{Row}
use Rattle.slopes.specs.declared.Slopes.{Slopes}
use Rattle.refusals.specs.declared.Refusal.{Refusal}
use Rattle.slopes.specs.declared.numbers.Property.{Property}
use Rattle.slopes.specs.declared.ratios.Change.{Change}

-- ---- an equation in p and T: regions 1, 2 and 5

-- The derivatives by p at constant T. P is p in kPa, α and κ are those of 001.
abbrev pub by_p : (P t : Float) → Unrooted → Response → Row
by_p P t a r =
    record {
      p = f64 1;
      t = f64 0;
      v = neg (a.v ⊗ r.kappa);
      u = a.v ⊗ (P ⊗ r.kappa ⊖ t ⊗ r.alpha);
      h = a.v ⊗ (f64 1 ⊖ t ⊗ r.alpha);
      s = neg (a.v ⊗ r.alpha);
      g = a.v;
      f = P ⊗ a.v ⊗ r.kappa;
    }

-- the derivatives by T at constant p
abbrev pub by_t : (P t : Float) → Unrooted → Response → Row
by_t P t a r =
    let Pvα = P ⊗ a.v ⊗ r.alpha in
    record {
      p = f64 0;
      t = f64 1;
      v = a.v ⊗ r.alpha;
      u = a.cp ⊖ Pvα;
      h = a.cp;
      s = a.cp ⊘ t;
      g = neg a.s;
      f = neg Pvα ⊖ a.s;
    }

-- p in MPa becomes kPa
unfoldable pub slopes_pt : (p t : Float) → Unrooted → Response → Slopes
slopes_pt p t a r = let P = f64 1000 ⊗ p in record { first = by_p P t a r; second = by_t P t a r }

-- ---- an equation in v and T: region 3

-- The derivatives by v at constant T. P is the pressure in kPa that the equation gives. α = (∂p/∂T)_v / p, β = -(∂p/∂v)_T / p and cv are those of 001, section
-- 3.2, which prints ρ where p belongs, in its table and in these two.
abbrev pub by_v : (P t : Float) → Unrooted → PressureResponse → Row
by_v P t a r =
    record {
      p = neg (P ⊗ r.beta);
      t = f64 0;
      v = f64 1;
      u = P ⊗ (t ⊗ r.alpha ⊖ f64 1);
      h = P ⊗ (t ⊗ r.alpha ⊖ a.v ⊗ r.beta);
      s = P ⊗ r.alpha;
      g = neg (P ⊗ a.v ⊗ r.beta);
      f = neg P;
    }

-- the derivatives by T at constant v
abbrev pub by_t_at_v : (P t : Float) → Unrooted → PressureResponse → Row
by_t_at_v P t a r =
    let Pvα = P ⊗ a.v ⊗ r.alpha in
    record {
      p = P ⊗ r.alpha;
      t = f64 1;
      v = f64 0;
      u = r.cv;
      h = r.cv ⊕ Pvα;
      s = r.cv ⊘ t;
      g = Pvα ⊖ a.s;
      f = neg a.s;
    }

-- p in MPa becomes kPa
unfoldable pub slopes_vt : (p t : Float) → Unrooted → PressureResponse → Slopes
slopes_vt p t a r = let P = f64 1000 ⊗ p in record { first = by_v P t a r; second = by_t_at_v P t a r }

-- ---- any equation

-- property n's derivative in a row, n from 1 to 8
abbrev pub slope : Row → ℕ → Float
slope r n = get_or (r.p ∷ r.t ∷ r.v ∷ r.u ∷ r.h ∷ r.s ∷ r.g ∷ r.f ∷ []) (n - 1) nan

-- both of its derivatives
abbrev pub change_of : Slopes → ℕ → Change
change_of a n = record { first = slope a.first n; second = slope a.second n }

-- z_1·y_2 - z_2·y_1, of the derivatives by the first variable and by the second
abbrev pub determinant : Slopes → ℕ → ℕ → Float
determinant a z y = slope a.first z ⊗ slope a.second y ⊖ slope a.second z ⊗ slope a.first y

-- a denominator is neither zero, of either sign, nor not finite; any other is refused by 8
unfoldable pub divides_of : Float → Bool
divides_of below = not (eq below (f64 0)) && finite below

abbrev pub ratio_of : Float → Float → Result Float Refusal
ratio_of above below = cond (divides_of below) (Ok (above ⊘ below)) (Err Refusal.WetOrSingular)

unfoldable pub ratio_at : Slopes → ℕ → ℕ → ℕ → Result Float Refusal
ratio_at a z x y = ratio_of (determinant a z y) (determinant a x y)

-- ---- the properties by their numbers

abbrev pub number_of : Property → ℕ
number_of Property.Pressure = 1
number_of Property.Temperature = 2
number_of Property.Volume = 3
number_of Property.InternalEnergy = 4
number_of Property.Enthalpy = 5
number_of Property.Entropy = 6
number_of Property.GibbsEnergy = 7
number_of Property.HelmholtzEnergy = 8

-- the number of a property
abbrev pub known : ℕ → Bool
known n = leb 1 n && leb n 8

unfoldable pub all_known : ℕ → ℕ → ℕ → Bool
all_known z x y = known z && (known x && known y)

-- the property that a number names; any other number is refused by 9
abbrev pub Names : ℕ → Result Property Refusal → Type 0
Names n r = MatchResult r (λ property. number_of property ≡ n) (λ why. (why ≡ Refusal.UnknownNumber) × (known n ≡ false))

-- a number that is no property's is refused by 9
unfoldable pub derivative_at : Slopes → ℕ → ℕ → ℕ → Result Float Refusal
derivative_at a z x y = cond (all_known z x y) (ratio_at a z x y) (Err Refusal.UnknownNumber)
