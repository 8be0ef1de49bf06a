-- `ledger::look::places_on` meets its contract: the test of each place is that of the definition. Assumes nothing.
use Rattle.std.proofs.Common.{length, rules, ◌≡◌, ℕ, ◌+◌, ◌%◌, refl, Bool, true, false, arith, sym, ap, ◌∙◌}
use Rattle.std.proofs.lemmas.Iterator.{YieldsList-from_range, IsFirst-from_position}
use borrow.Author.Tests.{tests}
use lib.ListN.{get_or}
use Rattle.ledger.specs.declared.Row.{Row}
use Rattle.ledger.specs.Rows.{row, wants, onward}
use Rattle.ledger.proofs.Lists.{read}
use Rattle.ledger.proofs.Told.{first_least}
use Rattle.ledger.proofs.look.places_on.Goals as goal

-- taking 32 off the place first, where it can be a large number, ends at the same row
around : (from k : ℕ) → (from % 32 + k) % 32 ≡ (from + k) % 32
around from k = omega arith

pub returns : goal.returns
unfolding onward
returns c =
    let long : length c.args.d.now.rows ≡ 32 = omega arith in
    let met = λ (k : ℕ). wants c.args.w (row c.args.d.now ((c.args.from + k) % 32)) in
    let Here : ℕ → Bool → Type 0 = λ k b. (r : Row) × (wants c.args.w (get_or c.args.d.now.rows ((c.args.from % 32 + k) % 32) r) ≡ b) in
    let told : (k : ℕ) (b : Bool) → Here k b → met k ≡ b = λ k b h.
    ap (λ (i : ℕ). wants c.args.w (row c.args.d.now i)) (sym (around c.args.from k)) ∙ read c.args.d.now long (wants c.args.w) b _ h.0 (omega arith) h.1 in
    first_least met 32 c.position.result
    (IsFirst-from_position _ _ _ (λ k. met k ≡ true) (λ k. met k ≡ false) c.position.ensures.ran (YieldsList-from_range 0 32 32 refl refl)
    (λ x q k. told x true (search (rules, tests)))
    (λ x q k. (search (rules, tests), told x false (search (rules, tests)))))
