-- `text::Line::column` meets its contract, case by case: `-` where there is no value, `nan` for what differs from itself, and else the bits. Assumes nothing.
use mathlib.Core.Path.{◌≡◌, refl, sym, ◌∙◌}
use Rattle.text.specs.Texts.{value_of, column_of}
use Rattle.text.proofs.Lines.{reads_line}
use Rattle.text.proofs.Line.column.Goals as goal

pub returns-in-None : goal.returns-in-None
unfolding column_of
returns-in-None c = reads_line c.bytes.ensures (rw c.in-None.is refl)

pub returns-in-Some : goal.returns-in-Some
unfolding column_of value_of
returns-in-Some c = reads_line c.bytes-in-Some.ensures (rw (c.in-Some.is, sym c.is_nan.ensures.value ∙ c.if-is_nan.true) refl)

pub returns-in-Some-2 : goal.returns-in-Some-2
unfolding column_of value_of
returns-in-Some-2 c =
    let e : c.in-Some-2.x ≡ c.in-Some.x = cc in
    reads_line c.hex.ensures (rw (e, c.in-Some.is, sym c.is_nan.ensures.value ∙ c.if-is_nan.false) refl)
