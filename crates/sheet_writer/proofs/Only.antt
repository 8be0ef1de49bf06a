-- No public call of this crate can give a second result: any two answers that meet its promise are the same, and so is what a lent slice holds then.
-- `Post` is the promise itself, read off the source, so a promise that said less would fail here. Assumes nothing.
use mathlib.Core.Path.{sym, ◌∙◌}
use Rattle.arith.proofs.Only.{Only}
use Rattle.text.proofs.Only.{OnlyRoom}
use Rattle.sheet_writer.proofs.write.Kinds as write_kinds
use Rattle.sheet_writer.proofs.write.Reads as write
use Rattle.sheet_writer.proofs.length.Kinds as length_kinds
use Rattle.sheet_writer.proofs.length.Reads as length

pub write_only : OnlyRoom 3 write_kinds.ps write_kinds.r (λ κs s. s.1.1.0.now) write.Post
write_only κs a x y s t p q = (p.0 ∙ sym q.0, p.1 ∙ sym q.1)

pub length_only : (E : _) (laws : _) (copy : _) (clone : _) (d : _) → Only 1 (length_kinds.ps E laws copy) (length_kinds.r E laws copy) (length.Post E laws copy clone d)
length_only E laws copy clone d κs a x y s t p q = p ∙ sym q
