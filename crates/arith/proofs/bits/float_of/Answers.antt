-- `arith::bits::float_of` meets its contract: the code's test is `nan_bits` (`nan_bits_above`). Assumes nothing.
use mathlib.Core.Path.{◌≡◌, ◌∙◌}
use mathlib.Core.Bool.{true, false}
use Prim.Native.Nat.{ℕ, ◌%◌, ◌^◌, ◌≤◌, ◌<◌}
use lib.Ieee.{binary64, nan_bits}
use lib.Ieee.Bits.{nan_bits_above}
use borrow.Author.Tests.{lt-ltb, le-ltb}
use native.Mathlib.Omega.{arith}
use Rattle.arith.specs.Bits.{float_of}
use Rattle.arith.proofs.Literals.{nan_is}
use Rattle.arith.proofs.bits.float_of.Goals as goal

is_nan : (b : ℕ) → 0x7ff0_0000_0000_0000 < b % 2 ^ 63 → nan_bits binary64 b ≡ true
is_nan b h = nan_bits_above binary64 b ∙ lt-ltb 0x7ff0_0000_0000_0000 (b % 2 ^ 63) h

no_nan : (b : ℕ) → b % 2 ^ 63 ≤ 0x7ff0_0000_0000_0000 → nan_bits binary64 b ≡ false
no_nan b h = nan_bits_above binary64 b ∙ le-ltb 0x7ff0_0000_0000_0000 (b % 2 ^ 63) h

pub float_from_bits-result : goal.float_from_bits-result
float_from_bits-result c =
    let number : c.args.bits % 2 ^ 63 ≤ 0x7ff0_0000_0000_0000 = omega arith in
    rw (no_nan c.args.bits number) tt

pub returns-then-bits-gt9218868437227405312 : goal.returns-then-bits-gt9218868437227405312
unfolding float_of
returns-then-bits-gt9218868437227405312 c = rw (is_nan c.args.bits c.if-bits-gt9218868437227405312.true) nan_is

pub returns-else-bits-gt9218868437227405312 : goal.returns-else-bits-gt9218868437227405312
unfolding float_of
returns-else-bits-gt9218868437227405312 c =
    let number : c.args.bits % 2 ^ 63 ≤ 0x7ff0_0000_0000_0000 = omega arith in
    rw (no_nan c.args.bits number)
