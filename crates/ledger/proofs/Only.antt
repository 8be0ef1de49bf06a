-- No function on a desk's rows can give a second result: any two that meet its promise are the same. Assumes nothing.
-- `Post` is the promise itself, read off the source, so a promise that said less would fail here.
use mathlib.Core.Path.{sym, ◌∙◌}
use Rattle.arith.proofs.Only.{Only}
use Rattle.ledger.proofs.look.blank_row.Kinds as blank_row_kinds
use Rattle.ledger.proofs.look.blank_row.Reads as blank_row
use Rattle.ledger.proofs.look.places_on.Kinds as places_on_kinds
use Rattle.ledger.proofs.look.places_on.Reads as places_on
use Rattle.ledger.proofs.look.count_open.Kinds as count_open_kinds
use Rattle.ledger.proofs.look.count_open.Reads as count_open
use Rattle.ledger.proofs.sound.is_nameable.Kinds as is_nameable_kinds
use Rattle.ledger.proofs.sound.is_nameable.Reads as is_nameable
use Rattle.ledger.proofs.sound.is_sound.Kinds as is_sound_kinds
use Rattle.ledger.proofs.sound.is_sound.Reads as is_sound

pub blank_row_only : Only 0 blank_row_kinds.ps blank_row_kinds.r blank_row.Post
blank_row_only κs a x y s t p q = p ∙ sym q

pub places_on_only : Only 1 places_on_kinds.ps places_on_kinds.r places_on.Post
places_on_only κs a x y s t p q = p ∙ sym q

pub count_open_only : Only 1 count_open_kinds.ps count_open_kinds.r count_open.Post
count_open_only κs a x y s t p q = p ∙ sym q

pub is_nameable_only : Only 0 is_nameable_kinds.ps is_nameable_kinds.r is_nameable.Post
is_nameable_only κs a x y s t p q = p ∙ sym q

pub is_sound_only : Only 1 is_sound_kinds.ps is_sound_kinds.r is_sound.Post
is_sound_only κs a x y s t p q = p ∙ sym q
