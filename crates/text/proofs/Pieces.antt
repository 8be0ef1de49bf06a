-- Pieces of text, one behind the other: what a caller of several writers needs, whatever its room. Assumes nothing.
use mathlib.Core.Path.{◌≡◌, refl, sym, ap, ◌∙◌}
use mathlib.Core.Bool.{Bool, true, false}
use mathlib.Core.List.{List, [], ◌++◌, append_assoc, append-nil}
use Prim.Native.Nat.{ℕ, ◌+◌, ◌≤◌, ◌<◌}
use native.Mathlib.Nat.{add_assoc, add-zero}
use native.Mathlib.Omega.{arith}
use lib.Dec.{leb}
use lib.ListN.{length, take, drop, length-append}
use lib.Seq.{paste, paste-zero, length-paste, take-paste, drop-paste, drop-drop, take-append-add, take-append-le, take-length, length-take-le}
use borrow.Author.Tests.{leb-true, leb-false}
use Rattle.text.specs.Room.{fitting, placed, after, Written, Whole}

-- ---- the room keeps its length

placed_length : (o : List ℕ) (at : ℕ) (s : List ℕ) → length (placed o at s) ≡ length o
unfolding placed fitting
placed_length o at s = go (leb at (length o)) refl
  where
    n : ℕ
    n = fitting o at s

    go : (t : Bool) → leb at (length o) ≡ t → length (paste o at s n) ≡ length o
    go true e = let h = leb-true at (length o) e in length-paste o at s n (omega arith) (omega arith)
    go false e =
        let h = leb-false at (length o) e in
        let z : n ≡ 0 = omega arith in
        ap (λ (k : ℕ). length (paste o at s k)) z ∙ ap length (sym (paste-zero o at s))

-- ---- two pieces

-- how much fits of two pieces
both_fit : (o : List ℕ) (at : ℕ) (a b : List ℕ) → fitting o at a + fitting (placed o at a) (after o at a) b ≡ fitting o at (a ++ b)
unfolding fitting after
both_fit o at a b = omega (arith, placed_length o at a, length-append a b)

-- the front of two pieces: of the second something only where the first is whole
front : (a b : List ℕ) (n m : ℕ) → n ≤ length a → (n < length a → m ≡ 0) → take n a ++ take m b ≡ take (n + m) (a ++ b)
front a b n m h e = go (leb (length a) n) refl
  where
    go : (t : Bool) → leb (length a) n ≡ t → take n a ++ take m b ≡ take (n + m) (a ++ b)
    go true q =
        let z : n ≡ length a = omega (arith, leb-true (length a) n q) in
        ap (λ (k : ℕ). take k a ++ take m b) z ∙ ap (λ (l : List ℕ). l ++ take m b) (take-length a) ∙ sym (take-append-add a b m)
        ∙ ap (λ (k : ℕ). take (k + m) (a ++ b)) (sym z)
    go false q =
        let z : m ≡ 0 = e (leb-false (length a) n q) in
        ap (λ (k : ℕ). take n a ++ take k b) z ∙ append-nil (take n a) ∙ sym (take-append-le n a b h)
        ∙ ap (λ (k : ℕ). take k (a ++ b)) (sym (ap (λ (k : ℕ). n + k) z ∙ add-zero n))

-- pasted one behind the other
paste_then : (o a b : List ℕ) (at n m : ℕ) → at ≤ length o → n ≤ length a
    → paste (paste o at a n) (at + n) b m ≡ take at o ++ (take n a ++ take m b) ++ drop (at + (n + m)) o
paste_then o a b at n m h k =
    let p = paste o at a n in
    ap (λ (l : List ℕ). l ++ take m b ++ drop (at + n + m) p) (take-paste o at a n h k)
    ∙ ap (λ (l : List ℕ). take at o ++ take n a ++ take m b ++ l)
    (sym (drop-drop m (at + n) p) ∙ ap (drop m) (drop-paste o at a n h k) ∙ drop-drop m (at + n) o)
    ∙ ap (λ (l : List ℕ). l ++ drop (at + n + m) o) (append_assoc (take at o) (take n a) (take m b))
    ∙ ap (λ (i : ℕ). take at o ++ (take n a ++ take m b) ++ drop i o) (add_assoc at n m)

placed_then : (o : List ℕ) (at : ℕ) (a b : List ℕ) → placed (placed o at a) (after o at a) b ≡ placed o at (a ++ b)
unfolding placed after fitting
placed_then o at a b = go (leb at (length o)) refl
  where
    n : ℕ
    n = fitting o at a

    m : ℕ
    m = fitting (placed o at a) (after o at a) b

    go : (t : Bool) → leb at (length o) ≡ t → paste (paste o at a n) (at + n) b m ≡ paste o at (a ++ b) (fitting o at (a ++ b))
    go true e =
        let h = leb-true at (length o) e in
        paste_then o a b at n m h (omega arith)
        ∙ ap (λ (l : List ℕ). take at o ++ l ++ drop (at + (n + m)) o) (front a b n m (omega arith) (λ l. omega (arith, placed_length o at a)))
        ∙ ap (paste o at (a ++ b)) (both_fit o at a b)
    go false e =
        let h = leb-false at (length o) e in
        let z : n ≡ 0 = omega arith in
        let w : m ≡ 0 = omega (arith, placed_length o at a) in
        ap (λ (k : ℕ). paste (paste o at a k) (at + k) b m) z
        ∙ ap (λ (k : ℕ). paste (paste o at a 0) (at + 0) b k) w
        ∙ sym (paste-zero (paste o at a 0) (at + 0) b)
        ∙ sym (paste-zero o at a)
        ∙ paste-zero o at (a ++ b)
        ∙ ap (paste o at (a ++ b)) (sym (sym (both_fit o at a b) ∙ ap (λ (k : ℕ). k + m) z ∙ ap (λ (k : ℕ). 0 + k) w))

after_then : (o : List ℕ) (at : ℕ) (a b : List ℕ) → after (placed o at a) (after o at a) b ≡ after o at (a ++ b)
unfolding after
after_then o at a b = add_assoc at _ _ ∙ ap (λ (k : ℕ). at + k) (both_fit o at a b)

-- ---- what callers cite

-- nothing is written
pub none : (o : List ℕ) (at : ℕ) → Written o at [] o at
unfolding placed after fitting
none o at = let z : 0 ≡ fitting o at [] = omega arith in record { room = paste-zero o at [] ∙ ap (paste o at []) z; place = omega arith }

-- a piece b behind a piece a is the piece of both
pub then : {o o₁ o₂ a b : List ℕ} {at p q : ℕ} → Written o at a o₁ p → Written o₁ p b o₂ q → Written o at (a ++ b) o₂ q
then {o} {o₁} {o₂} {a} {b} {at} {p} {q} x y = record {
  room = y.room ∙ ap (λ (l : List ℕ). placed l p b) x.room ∙ ap (λ (k : ℕ). placed (placed o at a) k b) x.place ∙ placed_then o at a b;
  place = y.place ∙ ap (λ (l : List ℕ). after l p b) x.room ∙ ap (λ (k : ℕ). after (placed o at a) k b) x.place ∙ after_then o at a b;
}

-- the same text, said otherwise
pub said : {o o₁ s t : List ℕ} {at p : ℕ} → s ≡ t → Written o at s o₁ p → Written o at t o₁ p
said {o} {o₁} {s} {t} {at} {p} e x = record { room = x.room ∙ ap (placed o at) e; place = x.place ∙ ap (after o at) e }

-- the same, of what was written first: that it is the text is then what is left to show
pub reads : {o o₁ s t : List ℕ} {at p : ℕ} → Written o at s o₁ p → s ≡ t → Written o at t o₁ p
reads x e = said e x

-- the same place, said otherwise
pub behind : {o o₁ s : List ℕ} {at p q : ℕ} → p ≡ q → Written o at s o₁ p → Written o at s o₁ q
behind e x = record { room = x.room; place = sym e ∙ x.place }

-- the room keeps its length
pub kept : {o s o₁ : List ℕ} {at p : ℕ} → Written o at s o₁ p → length o₁ ≡ length o
kept {o} {s} {o₁} {at} {p} x = ap length x.room ∙ placed_length o at s

-- where the room is long enough, the whole piece stands there
pub whole : (o : List ℕ) (at : ℕ) (s : List ℕ) → at + length s ≤ length o → placed o at s ≡ take at o ++ s ++ drop (at + length s) o
unfolding placed fitting
whole o at s h =
    let e : fitting o at s ≡ length s = omega arith in
    ap (paste o at s) e ∙ ap (λ (l : List ℕ). take at o ++ l ++ drop (at + length s) o) (take-length s)

-- the place p behind a piece is within the room, so that `&out[..p]` ends with the piece
pub inside : {o s o₁ : List ℕ} {at p : ℕ} → Written o at s o₁ p → at ≤ length o → (p ≤ length o₁) × (p ≡ length (take p o₁))
unfolding after fitting
inside {o} {s} {o₁} {at} {p} x h =
    let l : p ≤ length o₁ = omega (arith, x.place, kept x) in
    (l, sym (length-take-le p o₁ l))

-- where a room is long enough for a text at its front, nothing of it is cut
pub uncut : {o s o₁ : List ℕ} {p : ℕ} → Written o 0 s o₁ p → length s ≤ length o → Whole o₁ s p
unfolding after fitting
uncut {o} {s} {o₁} {p} x h =
    let e : p ≡ length s = omega (arith, x.place) in
    record {
      inside = omega (arith, kept x);
      text = ap (λ (k : ℕ). take k o₁) e ∙ ap (take (length s)) (x.room ∙ whole o 0 s (omega arith)) ∙ take-append-le (length s) s _ (omega arith) ∙ take-length s;
    }

-- and the part of the room that ends with it has as many bytes as its place says
pub ends : {o s : List ℕ} {p : ℕ} → Whole o s p → p ≡ length (take p o)
ends {o} {s} {p} x = sym (length-take-le p o x.inside)
