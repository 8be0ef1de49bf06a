-- `terms::Table::six` meets its contract: after k rows, the six sums of what is left, begun at s, are the whole sums. Assumes nothing.
use Prim.Native.Nat.{◌<◌}
use mathlib.Core.Path.{◌∙◌}
use native.Mathlib.Omega.{arith}
use lib.ListN.{length}
use mir.Syntax.{w8}
use mir.Facts.{to_z-of_z}
use Rattle.terms.specs.Sum.{rows_of}
use Rattle.terms.proofs.Rows.{rows_within, six_begun, six_next, six_end}
use Rattle.terms.proofs.Table.six.Goals as goal

pub returns-then-m-eq0 : goal.returns-then-m-eq0
returns-then-m-eq0 c =
    let ts = rows_of c.args.self in
    six_end c.args.a c.args.b _ ts 0 (omega (arith, c.count-m.ensures)) (six_begun c.args.a c.args.b _ ts c.default-s.ensures)

pub bounds-self-0 : goal.bounds-self-0
bounds-self-0 c = let t = c.args.self in (rows_within t.n.now t.i.now t.j.now 0 (omega (arith, c.count-m.ensures))).1

pub bounds-self-0-2 : goal.bounds-self-0-2
bounds-self-0-2 c = let t = c.args.self in (rows_within t.n.now t.i.now t.j.now 0 (omega (arith, c.count-m.ensures))).2

pub bounds-self-0-3 : goal.bounds-self-0-3
bounds-self-0-3 c = let t = c.args.self in (rows_within t.n.now t.i.now t.j.now 0 (omega (arith, c.count-m.ensures))).0

pub loop-k-init : goal.loop-k-init
loop-k-init c =
    let t = c.args.self in
    let more : 0 < length (rows_of t) = omega (arith, c.count-m.ensures) in (
      omega arith,
      six_next c.args.a c.args.b _ t.n.now t.i.now t.j.now 0 more (to_z-of_z {w = w8} (record { sfits = c.plus_six-arg-1.given })) (to_z-of_z {w = w8} (record { sfits = c.plus_six-arg-2-1.given })) c.plus_six-s.ensures (six_begun c.args.a c.args.b _ (rows_of t) c.default-s.ensures),
    )

pub loop-k-preserved : goal.loop-k-preserved
loop-k-preserved c = (omega (arith, c.group_end-e.ensures, c.count-m.ensures), c.group-s.ensures ∙ c.loop-k.invariant.1)

pub returns : goal.returns
returns c =
    six_end c.args.a c.args.b c.loop-k.s (rows_of c.args.self) c.loop-k.k (omega (arith, c.count-m.ensures)) c.loop-k.invariant.1
