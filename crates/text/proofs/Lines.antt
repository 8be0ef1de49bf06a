-- What is written into a line, piece by piece: what a caller of several writers needs, whatever its line. Assumes nothing.
use mathlib.Core.Path.{◌≡◌, refl, sym, ap, ◌∙◌}
use mathlib.Core.List.{List, [], ◌++◌}
use Prim.Native.Nat.{ℕ, ◌+◌, ◌≤◌}
use Rattle.text.specs.Room.{Written, placed, after}
use Rattle.text.specs.Lines.{Writes}
use Rattle.text.specs.declared.Line.{Line}
use Rattle.text.specs.Texts.{joined}
use Rattle.text.proofs.Pieces.{none, then, said, behind}
use Rattle.text.proofs.Joined.{begun, turned, ended}

-- nothing is written
pub nothing_line : {a : Line} → Writes a [] a
nothing_line = record { same = refl; text = none _ _ }

-- a piece t behind a piece s is the piece of both
pub then_line : {a b c : Line} {s t : List ℕ} → Writes a s b → Writes b t c → Writes a (s ++ t) c
then_line x y = record { same = y.same ∙ x.same; text = then x.text y.text }

-- the same text, said otherwise
pub said_line : {a b : Line} {s t : List ℕ} → s ≡ t → Writes a s b → Writes a t b
said_line e x = record { same = x.same; text = said e x.text }

-- the same, of what was written first: that it is the text is then what is left to show
pub reads_line : {a b : Line} {s t : List ℕ} → Writes a s b → s ≡ t → Writes a t b
reads_line x e = said_line e x

-- ---- a loop that writes

-- before it
pub begun_line : (text : ℕ → List ℕ) (a : Line) → Writes a (joined text 0) a
begun_line text a = record { same = refl; text = begun text _ _ }

-- a turn writes text k
pub turned_line : (text : ℕ → List ℕ) (k : ℕ) {a b c : Line} → Writes a (joined text k) b → Writes b (text k) c → Writes a (joined text (k + 1)) c
turned_line text k x y = record { same = y.same ∙ x.same; text = turned text k x.text y.text }

-- behind it
pub ended_line : (text : ℕ → List ℕ) {k n : ℕ} {a b : Line} → k ≤ n → n ≤ k → Writes a (joined text k) b → Writes a (joined text n) b
ended_line text h l x = record { same = x.same; text = ended text h l x.text }

-- ---- a call that makes a line of the room that it is lent

-- what the room and the place were at first
from : {o o' o₁ s : List ℕ} {at at' p : ℕ} → o ≡ o' → at ≡ at' → Written o at s o₁ p → Written o' at' s o₁ p
from {o} {o'} {o₁} {s} {at} {at'} {p} e f x = record {
  room = x.room ∙ ap (λ (l : List ℕ). placed l at s) e ∙ ap (λ (k : ℕ). placed o' k s) f;
  place = x.place ∙ ap (λ (l : List ℕ). after l at s) e ∙ ap (λ (k : ℕ). after o' k s) f;
}

-- what the room holds at the end
lands : {o o₁ o₂ s : List ℕ} {at p : ℕ} → o₂ ≡ o₁ → Written o at s o₁ p → Written o at s o₂ p
lands {o} {o₁} {o₂} {s} {at} {p} e x = record { room = e ∙ x.room; place = x.place }

-- Such a call's promise. The line a is new (`new`'s `start`), b is what was written of it, o₁ is the room as the caller has it back, and p is b's `end`.
pub lent : {a b : Line} {o o₁ s : List ℕ} {at p : ℕ} → o₁ ≡ b.room.now → p ≡ b.at → (a.room.now ≡ o) × (a.at ≡ at) → Writes a s b → Written o at s o₁ p
lent e q f x = lands e (from f.0 f.1 (behind (sym q) x.text))
