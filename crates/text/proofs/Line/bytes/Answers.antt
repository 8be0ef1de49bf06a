-- `text::Line::bytes` meets its contract: as many bytes as fit are copied into the room from its place on, which is what `placed` says, and at its end or past
-- it there are none. Assumes nothing.
use Prim.Native.Nat.{ℕ, ◌+◌}
use mathlib.Core.Path.{◌≡◌, refl, sym, ap, ◌∙◌}
use native.Mathlib.Omega.{arith}
use mathlib.Core.List.{List, ◌++◌, append_assoc}
use lib.ListN.{take, drop}
use lib.Seq.{paste, paste-zero, drop-drop}
use borrow.Rule.Slice.PartMut.{put_mid}
use Rattle.text.specs.Room.{fitting, placed, after}
use Rattle.text.proofs.Line.bytes.Goals as goal

-- a part of the room that holds the first n bytes of s now
copied : (o s t : List ℕ) (at k n m : ℕ) → t ≡ take n s → k ≡ n → n ≡ m → put_mid at k o t ≡ paste o at s m
copied o s t at k n m e p q =
    let front : put_mid at n o t ≡ paste o at s n =
    ap (λ (l : List ℕ). take at o ++ (l ++ drop n (drop at o))) e ∙ ap (λ (l : List ℕ). take at o ++ (take n s ++ l)) (drop-drop n at o)
    ∙ sym (append_assoc (take at o) (take n s) (drop (at + n) o)) in
    ap (λ (j : ℕ). put_mid at j o t) p ∙ front ∙ ap (paste o at s) q

pub returns-then-self : goal.returns-then-self
unfolding placed after fitting
returns-then-self c =
    let o = c.args.self.now.room.now in
    let at = c.args.self.now.at in
    let s = c.args.src.now in
    let n = c.min-n.result in
    record {
      same = refl;
      text = record {
        room = copied o s c.copy_from_slice.new.self at _ n (fitting o at s) c.copy_from_slice.ensures.after (omega arith) (omega arith);
        place = omega arith;
      };
    }

pub returns-else-self : goal.returns-else-self
unfolding placed after fitting
returns-else-self c =
    let o = c.args.self.now.room.now in
    let at = c.args.self.now.at in
    let s = c.args.src.now in
    let z : 0 ≡ fitting o at s = omega arith in
    record { same = refl; text = record { room = paste-zero o at s ∙ ap (paste o at s) z; place = omega arith } }
