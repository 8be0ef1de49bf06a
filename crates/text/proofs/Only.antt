-- No public call of this crate can give a second result: any two lines that meet its promise have the same room, the same bytes in it and the same place.
-- Assumes nothing. `Post` is the promise itself, read off the source, so a promise that said less would fail here.
use mathlib.Core.Path.{◌≡◌, sym, ◌∙◌}
use mathlib.Core.List.{List}
use Prim.Native.Nat.{ℕ}
use borrow.Fn.Kinds.{ParamKind, ResultKind, Out, Dens, res_t, ended_of}
use contract.Lifetimes.{Lfts}
use denote.Triple.Clauses.{AtExit}
use Rattle.text.specs.declared.Line.{Line}
use Rattle.text.specs.Lines.{Writes}
use Rattle.text.proofs.Line.new.Kinds as new_kinds
use Rattle.text.proofs.Line.new.Reads as new
use Rattle.text.proofs.Line.end.Kinds as end_kinds
use Rattle.text.proofs.Line.end.Reads as end
use Rattle.text.proofs.Line.bytes.Kinds as bytes_kinds
use Rattle.text.proofs.Line.bytes.Reads as bytes
use Rattle.text.proofs.Line.decimal.Kinds as decimal_kinds
use Rattle.text.proofs.Line.decimal.Reads as decimal
use Rattle.text.proofs.Line.hex.Kinds as hex_kinds
use Rattle.text.proofs.Line.hex.Reads as hex
use Rattle.text.proofs.Line.column.Kinds as column_kinds
use Rattle.text.proofs.Line.column.Reads as column
use Rattle.text.proofs.Line.fixed.Kinds as fixed_kinds
use Rattle.text.proofs.Line.fixed.Reads as fixed

-- one room, the same bytes in it, and one place
pub record Same (l m : Line) : Type 0 where
  pub room : l.room.ghost_name ≡ m.room.ghost_name
  pub bytes : l.room.now ≡ m.room.now
  pub place : l.at ≡ m.at

-- A promise that leaves one line afterwards: for a method of n lifetimes, parameters ps and a result r, whatever the arguments are.
-- `line` picks the line out of the parameters as they stand at exit.
abbrev pub OnlyLine : (n : ℕ) (ps : List (ParamKind n)) (r : ResultKind n) → ((κs : Lfts n) → AtExit (ended_of n ps r) κs → Line) → Out n ps r → Type 0
OnlyLine n ps r line Post =
    (κs : Lfts n) (a : Dens κs ps) (x y : (res_t r κs).Denot) (s t : AtExit (ended_of n ps r) κs) → Post κs a x s → Post κs a y t → Same (line κs s) (line κs t)

-- The same of a call that is lent a room and answers the place behind what it wrote: one result, and one room afterwards, which `room` picks out of the
-- parameters as they stand at exit. The calls of the crates above are such.
abbrev pub OnlyRoom : (n : ℕ) (ps : List (ParamKind n)) (r : ResultKind n) → ((κs : Lfts n) → AtExit (ended_of n ps r) κs → List ℕ) → Out n ps r → Type 0
OnlyRoom n ps r room Post =
    (κs : Lfts n) (a : Dens κs ps) (x y : (res_t r κs).Denot) (s t : AtExit (ended_of n ps r) κs) → Post κs a x s → Post κs a y t → (x ≡ y) × (room κs s ≡ room κs t)

-- what is written into a line leaves one line
pub one : {l m m' : Line} {s : List ℕ} → Writes l s m → Writes l s m' → Same m m'
one p q = record { room = p.same ∙ sym q.same; bytes = p.text.room ∙ sym q.text.room; place = p.text.place ∙ sym q.text.place }

pub new_only : (κs : Lfts 1) (a : Dens κs new_kinds.ps) (x y : (res_t new_kinds.r κs).Denot) (s t : AtExit (ended_of 1 new_kinds.ps new_kinds.r) κs)
    → new.Post κs a x s → new.Post κs a y t → Same x y
new_only κs a x y s t p q = record { room = p.0 ∙ sym q.0; bytes = p.1.0 ∙ sym q.1.0; place = p.1.1 ∙ sym q.1.1 }

pub end_only : (κs : Lfts 2) (a : Dens κs end_kinds.ps) (x y : (res_t end_kinds.r κs).Denot) (s t : AtExit (ended_of 2 end_kinds.ps end_kinds.r) κs)
    → end.Post κs a x s → end.Post κs a y t → x ≡ y
end_only κs a x y s t p q = p ∙ sym q

pub bytes_only : OnlyLine 3 bytes_kinds.ps bytes_kinds.r (λ κs s. s.0.now) bytes.Post
bytes_only κs a x y s t p q = one p q

pub decimal_only : OnlyLine 2 decimal_kinds.ps decimal_kinds.r (λ κs s. s.0.now) decimal.Post
decimal_only κs a x y s t p q = one p q

pub hex_only : OnlyLine 2 hex_kinds.ps hex_kinds.r (λ κs s. s.0.now) hex.Post
hex_only κs a x y s t p q = one p q

pub column_only : OnlyLine 2 column_kinds.ps column_kinds.r (λ κs s. s.0.now) column.Post
column_only κs a x y s t p q = one p q

pub fixed_only : OnlyLine 2 fixed_kinds.ps fixed_kinds.r (λ κs s. s.0.now) fixed.Post
fixed_only κs a x y s t p q = one p q
