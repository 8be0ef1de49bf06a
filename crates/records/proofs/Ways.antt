-- What holds of each way in which a record is read holds of it; so of turns no more are asked for than allowed. Assumes nothing.
use Prim.Native.Nat.{ℕ, ◌≤◌}
use mathlib.Core.Path.{◌≡◌, refl}
use mathlib.Core.Bool.{Bool, true, false, cond}
use mathlib.Core.List.{List}
use native.Mathlib.Omega.{arith}
use borrow.Author.Tests.{leb-true}
use lib.Dec.{leb, eqb}
use lib.ListN.{length}
use Rattle.std.specs.Prelude.{Option, Some, None}
use Rattle.words.specs.Words.{word_of}
use Rattle.ledger.proofs.Search.{and_true}
use Rattle.records.specs.declared.Deed.{Deed}
use Rattle.records.specs.declared.Deed.TheVariants.{Asked, Turns, Given, Shown}
use Rattle.records.specs.Records.{record_bytes, desk_bytes, most_turns, called, plain_of, rows_known, deed_of}

-- a choice has what both sides have where it falls on them
choice : (P : Option Deed → Type 0) (b : Bool) {x y : Option Deed} → (b ≡ true → P x) → (b ≡ false → P y) → P (cond b x y)
choice P true f g = f refl
choice P false f g = g refl

-- what each way in which a record is read has, with the bytes that are there then
pub record Ways (P : Option Deed → Type 0) (rest : List ℕ) : Type 0 where
  pub asked : record_bytes ≤ length rest → (call : _) → P (Some (Asked call))
  pub turns : record_bytes ≤ length rest → (n : ℕ) → n ≤ most_turns → P (Some (Turns n))
  pub given : desk_bytes ≤ length rest → P (Some Given)
  pub shown : record_bytes ≤ length rest → P (Some Shown)
  pub bad : P None

called_has : (P : Option Deed → Type 0) (rest : List ℕ) → Ways P rest → record_bytes ≤ length rest → (op caller a : ℕ) → P (called op caller a)
unfolding called
called_has P rest w h op caller a =
    choice P (eqb op 3) (λ _. w.asked h _)
    (λ _. choice P (eqb op 4) (λ _. w.asked h _) (λ _. choice P (eqb op 5) (λ _. w.asked h _) (λ _. w.bad)))

plain_has : (P : Option Deed → Type 0) (rest : List ℕ) → Ways P rest → record_bytes ≤ length rest → (op caller a b c d : ℕ) → P (plain_of op caller a b c d)
unfolding plain_of
plain_has P rest w h op caller a b c d =
    choice P (eqb op 1) (λ _. w.asked h _)
    (λ _. choice P (eqb op 2)
    (λ _. choice P (leb a most_turns) (λ e. w.turns h a (leb-true a most_turns e)) (λ _. w.bad))
    (λ _. choice P (eqb op 7) (λ _. w.shown h) (λ _. called_has P rest w h op caller a)))

desk_there : (rest : List ℕ) → rows_known rest ≡ true → desk_bytes ≤ length rest
unfolding rows_known
desk_there rest e = leb-true desk_bytes (length rest) (and_true _ _ e).0

pub read_has : (P : Option Deed → Type 0) (rest : List ℕ) → Ways P rest → P (deed_of rest)
unfolding deed_of
read_has P rest w =
    choice P (leb record_bytes (length rest))
    (λ h. choice P (eqb (word_of rest 0) 6)
    (λ _. choice P (rows_known rest) (λ e. w.given (desk_there rest e)) (λ _. w.bad))
    (λ _. plain_has P rest w (leb-true record_bytes (length rest) h) (word_of rest 0) (word_of rest 1) (word_of rest 2) (word_of rest 3) (word_of rest 4) (word_of rest 5)))
    (λ _. w.bad)

-- how many turns are asked for
abbrev pub turns_in : Option Deed → ℕ
turns_in (Some (Asked call)) = 0
turns_in (Some (Turns n)) = n
turns_in (Some Given) = 0
turns_in (Some Shown) = 0
turns_in None = 0

pub turns_few : (rest : List ℕ) → turns_in (deed_of rest) ≤ most_turns
turns_few rest =
    read_has (λ d. turns_in d ≤ most_turns) rest
    (record { asked = λ h call. omega arith; turns = λ h n l. l; given = λ h. omega arith; shown = λ h. omega arith; bad = omega arith })
