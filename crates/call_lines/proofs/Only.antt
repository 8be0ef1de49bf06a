-- The public call of this crate can give no second result: any two places and any two rooms afterwards that meet its promise are the same. Assumes nothing.
-- `Post` is the promise itself, read off the source, so a promise that said less would fail here.
use mathlib.Core.Path.{sym, ◌∙◌}
use Rattle.text.proofs.Only.{OnlyRoom}
use Rattle.call_lines.proofs.told.Kinds as told_kinds
use Rattle.call_lines.proofs.told.Reads as told

-- of an answer that is refused by whatever has a number: which it has is in `numbered`
pub told_only : (E : _) (laws : _) (copy : _) (numbered : _) (d : _) (clone : _) (e : _) → OnlyRoom 2 (told_kinds.ps E laws copy) (told_kinds.r E laws copy) (λ κs s. s.1.1.1.0.now) (told.Post E laws copy numbered d clone e)
told_only E laws copy numbered d clone e κs a x y s t p q = (p.place ∙ sym q.place, p.room ∙ sym q.room)
