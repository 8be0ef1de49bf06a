use native.Mathlib.Omega.{arith}
use Rattle.text.proofs.Pieces.{ends}
use Rattle.transcript.proofs.RunLaws.{first, begun, goes_on, ended}
use Rattle.replay.proofs.replay.Goals as goal

pub loop-after-init : goal.loop-after-init
loop-after-init g c = (omega arith, omega arith, rw c.new_desk-desk.ensures (first _), begun _)

pub play-step-requires : goal.play-step-requires
play-step-requires g c = let i = c.loop-after.invariant in (i.0, omega arith, i.2)

pub slice_bounds-room-end : goal.slice_bounds-room-end
slice_bounds-room-end g c = c.play-step.ensures.1.inside

pub slice_bounds-write_all-end : goal.slice_bounds-write_all-end
slice_bounds-write_all-end g c = ends c.play-step.ensures.1

pub overflow_add-at : goal.overflow_add-at
overflow_add-at g c = omega (arith, c.play-step.ensures.0.there)

pub returns-then-run-at : goal.returns-then-run-at
returns-then-run-at g c = ended c.loop-after.invariant.3 c.play-step.ensures.0.next c.if-run-at.true

pub loop-after-smaller : goal.loop-after-smaller
loop-after-smaller g c =
    let p = c.play-step.ensures.0 in
    omega (arith, p.there, p.some (omega (arith, p.there)))

pub loop-after-preserved : goal.loop-after-preserved
loop-after-preserved g c =
    let x = c.play-step.ensures.0 in
    (x.there, omega (arith, x.some (omega (arith, x.there))), x.next, goes_on c.loop-after.invariant.3 x.next c.if-run-at.false)
