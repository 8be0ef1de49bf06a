-- No public call of this crate can give a second result: any two results that meet its promise are the same. Assumes nothing.
-- `Post` is the promise itself, read off the source, so a promise that said less would fail here.
use mathlib.Core.Path.{◌≡◌, sym, ◌∙◌}
use mathlib.Core.List.{List}
use Prim.Native.Nat.{ℕ}
use borrow.Fn.Kinds.{ParamKind, ResultKind, Out, Dens, res_t, ended_of}
use contract.Lifetimes.{Lfts}
use denote.Triple.Clauses.{AtExit}
use Rattle.arith.proofs.bits.float_of.Kinds as float_of_kinds
use Rattle.arith.proofs.bits.float_of.Reads as float_of
use Rattle.arith.proofs.bits.is_finite.Kinds as is_finite_kinds
use Rattle.arith.proofs.bits.is_finite.Reads as is_finite
use Rattle.arith.proofs.powers.power.Kinds as power_kinds
use Rattle.arith.proofs.powers.power.Reads as power

-- A promise that leaves one result: for a function of n lifetimes, parameters ps and a result r, whatever the arguments are.
abbrev pub Only : (n : ℕ) (ps : List (ParamKind n)) (r : ResultKind n) → Out n ps r → Type 0
Only n ps r Post = (κs : Lfts n) (a : Dens κs ps) (x y : (res_t r κs).Denot) (s t : AtExit (ended_of n ps r) κs) → Post κs a x s → Post κs a y t → x ≡ y

pub float_of_only : Only 0 float_of_kinds.ps float_of_kinds.r float_of.Post
float_of_only κs a x y s t p q = p ∙ sym q

pub is_finite_only : Only 0 is_finite_kinds.ps is_finite_kinds.r is_finite.Post
is_finite_only κs a x y s t p q = p ∙ sym q

pub power_only : Only 0 power_kinds.ps power_kinds.r power.Post
power_only κs a x y s t p q = p ∙ sym q
