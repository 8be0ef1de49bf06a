-- `written::answered` meets its contract: the sheet, or the line of a refusal, stands whole in the room. Assumes nothing.
use mathlib.Core.Path.{◌≡◌, sym, ap, subst, ◌∙◌}
use mathlib.Core.List.{List}
use Prim.Native.Nat.{ℕ}
use native.Mathlib.Omega.{arith}
use lib.ListN.{length, take, drop, length-append, length-drop}
use lib.Seq.{length-take-le}
use Rattle.text.specs.Room.{Whole}
use Rattle.std.proofs.Common.{rules}
use Rattle.text.proofs.Pieces.{uncut}
use Rattle.text.proofs.Lines.{lent}
use Rattle.row_lines.proofs.Fits.{refused_short}
use Rattle.refusals.specs.Refusals.{number_in}
use Rattle.sheet_writer.specs.Write.{length_of}
use Rattle.written.proofs.Laws.{answered, refusal, room_kept}
use Rattle.written.proofs.answered.Goals as goal

-- the same text, said otherwise
reads_whole : {o s t : List ℕ} {p : ℕ} → s ≡ t → Whole o s p → Whole o t p
reads_whole {o} {s} {t} {p} e x = subst (λ (l : List ℕ). Whole o l p) e x

pub slice_bounds-write-end-2 : goal.slice_bounds-write-end-2
slice_bounds-write-end-2 c = sym (length-take-le c.args.most c.args.room.now (omega arith))

pub returns-in-Ok : goal.returns-in-Ok
returns-in-Ok c =
    let a = c.args in
    subst (Whole _ _) (ap length_of (sym c.in-Ok.is) ∙ sym c.length.ensures)
    (answered a.note.now a.rows.now (take a.most a.room.now) (drop a.most a.room.now)
    (length-take-le a.most a.room.now (omega arith))
    (sym c.in-Ok.is ∙ c.write-writing.ensures.0)
    c.write-writing.ensures.1)

pub returns-in-Err : goal.returns-in-Err
returns-in-Err c =
    let most = c.args.most in
    let room = c.args.room.now in
    let note = c.args.note.now in
    let rows = c.args.rows.now in
    let size = length-take-le most room (omega arith) in
    let answer = sym c.in-Err.is ∙ c.write-writing.ensures.0 in
    let kept = room_kept note rows (take most room) answer c.write-writing.ensures.1 in
    let whole = length-append c.write-writing.new.out (drop most room) in
    reads_whole
    (refusal note rows (take most room) size answer (c.refused_by.ensures ∙ ap number_in c.in-Err.is))
    (uncut (lent (search rules) c.end.ensures c.new-line.ensures.start c.refused.ensures) (omega (arith, refused_short c.refused_by.result, whole, ap length kept, size, length-drop most room, c.requires.1)))
