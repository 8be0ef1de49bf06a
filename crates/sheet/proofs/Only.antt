-- No public call of this crate can give a second result: any two results that meet its promise are the same. Assumes nothing.
-- `Post` is the promise itself, read off the source, so a promise that said less would fail here.
use mathlib.Core.Path.{sym, ◌∙◌}
use Rattle.arith.proofs.Only.{Only}
use Rattle.sheet.proofs.reader.read.Kinds as read_kinds
use Rattle.sheet.proofs.reader.read.Reads as read
use Rattle.sheet.proofs.reader.count.Kinds as count_kinds
use Rattle.sheet.proofs.reader.count.Reads as count
use Rattle.sheet.proofs.reader.start.Kinds as start_kinds
use Rattle.sheet.proofs.reader.start.Reads as start
use Rattle.sheet.proofs.rows.kinds_known.Kinds as kinds_known_kinds
use Rattle.sheet.proofs.rows.kinds_known.Reads as kinds_known_reads
use Rattle.sheet.proofs.rows.row.Kinds as row_kinds
use Rattle.sheet.proofs.rows.row.Reads as row

pub read_only : Only 1 read_kinds.ps read_kinds.r read.Post
read_only κs a x y s t p q = p ∙ sym q

pub count_only : (E : _) (laws : _) (copy : _) (clone : _) (d : _) → Only 1 (count_kinds.ps E laws copy) (count_kinds.r E laws copy) (count.Post E laws copy clone d)
count_only E laws copy clone d κs a x y s t p q = p ∙ sym q

pub start_only : (E : _) (laws : _) (copy : _) (clone : _) (d : _) → Only 1 (start_kinds.ps E laws copy) (start_kinds.r E laws copy) (start.Post E laws copy clone d)
start_only E laws copy clone d κs a x y s t p q = p ∙ sym q

pub kinds_known_only : Only 1 kinds_known_kinds.ps kinds_known_kinds.r kinds_known_reads.Post
kinds_known_only κs a x y s t p q = p ∙ sym q

pub row_only : Only 1 row_kinds.ps row_kinds.r row.Post
row_only κs a x y s t p q = p ∙ sym q
