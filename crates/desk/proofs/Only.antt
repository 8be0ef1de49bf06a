-- No call of the desk can give a second result: any two that meet its promise are the same, answer and desk. Assumes nothing.
-- `Post` is the promise itself, read off the source, so a promise that said less would fail here.
use mathlib.Core.Path.{sym, ◌∙◌}
use Rattle.arith.proofs.Only.{Only}
use Rattle.desk.proofs.calls.new_desk.Kinds as new_desk_kinds
use Rattle.desk.proofs.calls.new_desk.Reads as new_desk_reads
use Rattle.desk.proofs.calls.post.Kinds as post_kinds
use Rattle.desk.proofs.calls.post.Reads as post
use Rattle.desk.proofs.calls.turn.Kinds as turn_kinds
use Rattle.desk.proofs.calls.turn.Reads as turn
use Rattle.desk.proofs.calls.peek.Kinds as peek_kinds
use Rattle.desk.proofs.calls.peek.Reads as peek
use Rattle.desk.proofs.calls.collect.Kinds as collect_kinds
use Rattle.desk.proofs.calls.collect.Reads as collect
use Rattle.desk.proofs.calls.withdraw.Kinds as withdraw_kinds
use Rattle.desk.proofs.calls.withdraw.Reads as withdraw

pub new_desk_only : Only 0 new_desk_kinds.ps new_desk_kinds.r new_desk_reads.Post
new_desk_only κs a x y s t p q = p ∙ sym q

pub post_only : Only 0 post_kinds.ps post_kinds.r post.Post
post_only κs a x y s t p q = p ∙ sym q

pub turn_only : Only 0 turn_kinds.ps turn_kinds.r turn.Post
turn_only κs a x y s t p q = p ∙ sym q

pub peek_only : Only 0 peek_kinds.ps peek_kinds.r peek.Post
peek_only κs a x y s t p q = p ∙ sym q

pub collect_only : Only 0 collect_kinds.ps collect_kinds.r collect.Post
collect_only κs a x y s t p q = p ∙ sym q

pub withdraw_only : Only 0 withdraw_kinds.ps withdraw_kinds.r withdraw.Post
withdraw_only κs a x y s t p q = p ∙ sym q
