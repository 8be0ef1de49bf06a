-- What the other proofs know of the versions: these four, and nothing else. Assumes nothing.
use mathlib.Core.Path.{◌≡◌, refl, sym}
use mathlib.Core.Bool.{true}
use Prim.Native.Nat.{ℕ, ◌≤◌, ◌<◌}
use native.Mathlib.Omega.{arith}
use lib.Dec.{lit<}
use borrow.Author.Tests.{leb-true, eqb-true}
use Rattle.versions.specs.Versions.{known, allowed, version_for}

-- a number of rows that is allowed is small
pub allowed_small : (version count : ℕ) → allowed version count ≡ true → count ≤ 2500
unfolding allowed
allowed_small version count e = omega (arith, leb-true count 1000 e)

-- the version that is written is a u32
pub version_small : (count : ℕ) → version_for count < 4294967296
unfolding version_for
version_small count = lit< tt

-- what is written is read
pub version_known : (count : ℕ) → known (version_for count) ≡ true
unfolding known version_for
version_known count = refl

-- what is read is written again: a version that allows so many rows is the one in which they are written
pub version_one : (version count : ℕ) → known version ≡ true → allowed version count ≡ true → version_for count ≡ version
unfolding known version_for
version_one version count k a = sym (eqb-true version 1 k)
