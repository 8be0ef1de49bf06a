-- `terms::Table::group` meets its contract: at row l, the six sums of what is left, begun at r, are those of the rows from k on, begun at s. Assumes nothing.
use Prim.Native.Nat.{◌<◌}
use mathlib.Core.Path.{◌≡◌}
use native.Mathlib.Omega.{arith}
use lib.ListN.{length}
use mir.Syntax.{w8}
use mir.Facts.{to_z-of_z}
use Rattle.terms.specs.Sum.{rows_of}
use Rattle.terms.proofs.Rows.{rows_within, six_next}
use Rattle.terms.proofs.Table.group.Goals as goal
use Rattle.terms.proofs.Table.group.Goals.{In-loop-l}

-- a row below e is a row of each slice
within : (c : In-loop-l) → let t = c.args.self in let l = c.loop-l.l in (l < length t.n.now) × (l < length t.i.now) × (l < length t.j.now)
within c = rows_within c.args.self.n.now c.args.self.i.now c.args.self.j.now c.loop-l.l (omega arith)

pub bounds-self-l : goal.bounds-self-l
bounds-self-l c = (within (goal.at.bounds-self-l c).In-loop-l).1

pub bounds-self-l-in-loop-l : goal.bounds-self-l-in-loop-l
bounds-self-l-in-loop-l c = (within (goal.at.bounds-self-l-in-loop-l c).In-loop-l).2

pub offset_bounds-self-l : goal.offset_bounds-self-l
offset_bounds-self-l c = omega (arith, within (goal.at.offset_bounds-self-l c).In-loop-l)

pub bounds-self-l-in-loop-l-2 : goal.bounds-self-l-in-loop-l-2
bounds-self-l-in-loop-l-2 c = (within (goal.at.bounds-self-l-in-loop-l-2 c).In-loop-l).0

pub loop-l-preserved : goal.loop-l-preserved
loop-l-preserved c =
    let t = c.args.self in
    let k = c.loop-l.l in
    let more : k < length (rows_of t) = omega (arith, c.requires.1) in
    six_next c.args.a c.args.b c.loop-l.r t.n.now t.i.now t.j.now k more (to_z-of_z {w = w8} (record { sfits = c.plus_six-arg-1.given })) (to_z-of_z {w = w8} (record { sfits = c.plus_six-arg-in-loop-l-1.given })) c.plus_six-r.ensures c.loop-l.invariant

pub returns : goal.returns
returns c =
    let h : c.loop-l.l ≡ c.args.e = omega arith in
    rw h at c.loop-l.invariant
