-- No public call of this crate can give a second result: any two places and any two rooms afterwards that meet its promise are the same. Assumes nothing.
-- `Post` is the promise itself, read off the source, so a promise that said less would fail here.
use mathlib.Core.Path.{sym, ◌∙◌}
use Rattle.arith.proofs.Only.{Only}
use Rattle.text.proofs.Only.{OnlyRoom}
use Rattle.listing.proofs.listings.regions.Kinds as regions_kinds
use Rattle.listing.proofs.listings.regions.Reads as regions
use Rattle.listing.proofs.listings.answers.Kinds as answers_kinds
use Rattle.listing.proofs.listings.answers.Reads as answers
use Rattle.listing.proofs.opening.triples.Kinds as triples_kinds
use Rattle.listing.proofs.opening.triples.Reads as triples
use Rattle.listing.proofs.derivatives.quotients_head.Kinds as quotients_head_kinds
use Rattle.listing.proofs.derivatives.quotients_head.Reads as quotients_head_reads
use Rattle.listing.proofs.derivatives.quotients.Kinds as quotients_kinds
use Rattle.listing.proofs.derivatives.quotients.Reads as quotients

pub regions_only : OnlyRoom 2 regions_kinds.ps regions_kinds.r (λ κs s. s.1.0.now) regions.Post
regions_only κs a x y s t p q = (p.place ∙ sym q.place, p.room ∙ sym q.room)

pub answers_only : OnlyRoom 2 answers_kinds.ps answers_kinds.r (λ κs s. s.1.0.now) answers.Post
answers_only κs a x y s t p q = (p.place ∙ sym q.place, p.room ∙ sym q.room)

pub triples_only : Only 1 triples_kinds.ps triples_kinds.r triples.Post
triples_only κs a x y s t p q = p ∙ sym q

-- of a reading that is refused by whatever has a number: which it has is in `numbered`
pub quotients_head_only : (E : _) (laws : _) (copy : _) (numbered : _) (d : _) (clone : _) (e : _) → OnlyRoom 2 (quotients_head_kinds.ps E laws copy) (quotients_head_kinds.r E laws copy) (λ κs s. s.1.0.now) (quotients_head_reads.Post E laws copy numbered d clone e)
quotients_head_only E laws copy numbered d clone e κs a x y s t p q = (p.place ∙ sym q.place, p.room ∙ sym q.room)

pub quotients_only : (E : _) (laws : _) (copy : _) (clone : _) (d : _) → OnlyRoom 3 (quotients_kinds.ps E laws copy) (quotients_kinds.r E laws copy) (λ κs s. s.1.1.1.0.now) (quotients.Post E laws copy clone d)
quotients_only E laws copy clone d κs a x y s t p q = (p.place ∙ sym q.place, p.room ∙ sym q.room)
