-- No public call of this crate can give a second result: any two results that meet its promise are the same. Assumes nothing.
-- `Post` is the promise itself, read off the source, so a promise that said less would fail here.
use mathlib.Core.Path.{sym, ◌∙◌}
use Rattle.arith.proofs.Only.{Only}
use Rattle.slopes.proofs.answers.value.Kinds as value_kinds
use Rattle.slopes.proofs.answers.value.Reads as value
use Rattle.slopes.proofs.numbers.all_known.Kinds as all_known_kinds
use Rattle.slopes.proofs.numbers.all_known.Reads as all_known
use Rattle.slopes.proofs.ratios.quotient.Kinds as quotient_kinds
use Rattle.slopes.proofs.ratios.quotient.Reads as quotient
use Rattle.slopes.proofs.tables.by_p_and_t.Kinds as by_p_and_t_kinds
use Rattle.slopes.proofs.tables.by_p_and_t.Reads as by_p_and_t
use Rattle.slopes.proofs.tables.by_v_and_t.Kinds as by_v_and_t_kinds
use Rattle.slopes.proofs.tables.by_v_and_t.Reads as by_v_and_t

pub all_known_only : Only 0 all_known_kinds.ps all_known_kinds.r all_known.Post
all_known_only κs a x y s t p q = p ∙ sym q

pub quotient_only : Only 0 quotient_kinds.ps quotient_kinds.r quotient.Post
quotient_only κs a x y s t p q = p ∙ sym q

pub by_p_and_t_only : Only 0 by_p_and_t_kinds.ps by_p_and_t_kinds.r by_p_and_t.Post
by_p_and_t_only κs a x y s t p q = p ∙ sym q

pub by_v_and_t_only : Only 0 by_v_and_t_kinds.ps by_v_and_t_kinds.r by_v_and_t.Post
by_v_and_t_only κs a x y s t p q = p ∙ sym q

pub value_only : (E : _) (laws : _) (copy : _) (clone : _) (d : _) → Only 1 (value_kinds.ps E laws copy) (value_kinds.r E laws copy) (value.Post E laws copy clone d)
value_only E laws copy clone d κs a x y s t p q = p ∙ sym q
