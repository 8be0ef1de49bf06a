-- No public call of this crate can give a second result: any two lines that meet its promise have the same room, the same bytes in it and the same place.
-- Assumes nothing. `Post` is the promise itself, read off the source, so a promise that said less would fail here.
use Rattle.text.proofs.Only.{OnlyLine, one}
use Rattle.row_lines.proofs.lines.refused.Kinds as refused_kinds
use Rattle.row_lines.proofs.lines.refused.Reads as refused
use Rattle.row_lines.proofs.lines.region_line.Kinds as region_line_kinds
use Rattle.row_lines.proofs.lines.region_line.Reads as region_line_reads
use Rattle.row_lines.proofs.lines.answer_line.Kinds as answer_line_kinds
use Rattle.row_lines.proofs.lines.answer_line.Reads as answer_line_reads
use Rattle.row_lines.proofs.lines.quotient_line.Kinds as quotient_line_kinds
use Rattle.row_lines.proofs.lines.quotient_line.Reads as quotient_line_reads

pub refused_only : OnlyLine 2 refused_kinds.ps refused_kinds.r (λ κs s. s.1.0.now) refused.Post
refused_only κs a x y s t p q = one p q

pub region_line_only : OnlyLine 2 region_line_kinds.ps region_line_kinds.r (λ κs s. s.1.1.0.now) region_line_reads.Post
region_line_only κs a x y s t p q = one p q

pub answer_line_only : OnlyLine 2 answer_line_kinds.ps answer_line_kinds.r (λ κs s. s.1.1.0.now) answer_line_reads.Post
answer_line_only κs a x y s t p q = one p q

pub quotient_line_only : OnlyLine 2 quotient_line_kinds.ps quotient_line_kinds.r (λ κs s. s.1.1.1.1.1.0.now) quotient_line_reads.Post
quotient_line_only κs a x y s t p q = one p q
