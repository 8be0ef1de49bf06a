-- No public call of this crate can give a second result: any two answers and any two rooms afterwards that meet its promise are the same. Assumes nothing.
-- `Post` is the promise itself, read off the source, so a promise that said less would fail here.
use mathlib.Core.Path.{◌≡◌, sym, ◌∙◌}
use Rattle.text.proofs.Only.{OnlyRoom}
use Rattle.transcript.specs.declared.Step.{Step}
use Rattle.transcript.proofs.steps.play.Kinds as play_kinds
use Rattle.transcript.proofs.steps.play.Reads as play

-- a result by its parts
same : (x y : Step) → x.desk ≡ y.desk → x.taken ≡ y.taken → x.end ≡ y.end → x ≡ y
same x y d t e = λ i. record { desk = d i; taken = t i; end = e i }

pub play_only : OnlyRoom 2 play_kinds.ps play_kinds.r (λ κs s. s.1.1.1.0.now) play.Post
play_only κs a x y s t p q =
    (same x y (p.0.desk ∙ sym q.0.desk) (p.0.taken ∙ sym q.0.taken) (p.1.place ∙ sym q.1.place), p.1.room ∙ sym q.1.room)
