-- A coefficient is the f64 nearest its printed decimal. Definitions only.
use Rattle.std.specs.Prelude.{ℕ, suc, ◌*◌, ◌^◌, Bool, ℤ, pos, negsuc, neg_ℤ, ◌-ℤ◌, Float}
use Rattle.std.specs.Float.{binary64}
use Rattle.std.specs.Float.Ieee.{round}

-- -k
abbrev pub less : ℕ → ℤ
less k = neg_ℤ (pos k)

-- The f64 nearest digits · 10^power, negative where `minus` is true: 16.53 is `printed false 1653 (less 2)`. `negsuc k` is -(k + 1).
unfoldable pub printed : Bool → ℕ → ℤ → Float
printed minus digits (pos k) = round binary64 minus (digits * 10 ^ k) 1
printed minus digits (negsuc k) = round binary64 minus digits (10 ^ suc k)

-- The same as the papers' tables print it, ±0.digits · 10^power with so many digits: -0.37563603672040 · 10^1 is `coefficient 14 true 37563603672040 (pos 1)`.
abbrev pub coefficient : ℕ → Bool → ℕ → ℤ → Float
coefficient many minus digits power = printed minus digits (power -ℤ pos many)
