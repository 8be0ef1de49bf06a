-- No public call of this crate can give a second result: any two results that meet its promise are the same. Assumes nothing.
use Rattle.std.proofs.Common.{sym, ◌∙◌}
use Rattle.arith.proofs.Only.{Only}
use Rattle.elementary.proofs.roots.root.Kinds as root_kinds
use Rattle.elementary.proofs.roots.root.Reads as root
use Rattle.elementary.proofs.roots.fourth_root.Kinds as fourth_root_kinds
use Rattle.elementary.proofs.roots.fourth_root.Reads as fourth_root
use Rattle.elementary.proofs.logs.log.Kinds as log_kinds
use Rattle.elementary.proofs.logs.log.Reads as log

pub root_only : Only 0 root_kinds.ps root_kinds.r root.Post
root_only κs a x y s t p q = p ∙ sym q

pub fourth_root_only : Only 0 fourth_root_kinds.ps fourth_root_kinds.r fourth_root.Post
fourth_root_only κs a x y s t p q = p ∙ sym q

pub log_only : Only 0 log_kinds.ps log_kinds.r log.Post
log_only κs a x y s t p q = p ∙ sym q
