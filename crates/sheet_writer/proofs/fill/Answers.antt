-- `sheet_writer::fill` meets its contract: three pieces, one behind the other, are the sheet. Assumes nothing.
use mathlib.Core.Path.{◌≡◌, refl, ap, ◌∙◌}
use mathlib.Core.List.{List, ◌++◌}
use Prim.Native.Nat.{ℕ, ◌/◌}
use lib.ListN.{length}
use native.Mathlib.Omega.{arith}
use Rattle.versions.specs.Versions.{version_for}
use Rattle.versions.proofs.VersionLaws.{version_small}
use Rattle.std.proofs.Common.{rules}
use Rattle.text.proofs.Lines.{then_line, said_line, lent}
use Rattle.sheet_writer.specs.Write.{trailer_bytes, sheet_of}
use Rattle.sheet_writer.proofs.fill.Goals as goal

pub u32_bytes-requires-3 : goal.u32_bytes-requires-3
u32_bytes-requires-3 c = omega (arith, version_small (length c.args.rows.now / 24))

pub returns : goal.returns
unfolding sheet_of
returns c =
    let a = c.args in
    let n = length a.rows.now / 24 in
    let last : c.as_flattened.result.now ≡ trailer_bytes n (version_for n) =
    c.as_flattened.ensures.value
    ∙ rw (c.u32_bytes.ensures, c.u32_bytes-2.ensures, c.u32_bytes-3.ensures, c.u32_bytes-4.ensures, c.version_for.ensures) refl in
    (lent (search rules) refl c.new-line.ensures.start
    (said_line (ap (λ (l : List ℕ). a.note.now ++ a.rows.now ++ l) last) (then_line (then_line c.bytes.ensures c.bytes-2.ensures) c.bytes-3.ensures))).room
