-- The versions of the format of point sheets: all that depends on them. Definitions only.
use Rattle.std.specs.Prelude.{ℕ, Bool, leb, eqb}

-- the versions that are read
unfoldable pub known : ℕ → Bool
known version = eqb version 1

-- how many rows a version allows
unfoldable pub allowed : ℕ → ℕ → Bool
allowed version count = leb count 1000

-- the version in which so many rows are written
unfoldable pub version_for : ℕ → ℕ
version_for count = 1
