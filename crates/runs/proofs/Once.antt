-- A caller gets each ticket once: a post gets its caller's count for a ticket and raises it, and no call lowers it. Assumes nothing.
use mathlib.Core.Path.{◌≡◌, refl, sym, ap₂, ◌∙◌, subst}
use mathlib.Core.List.{List, [], ◌∷◌, ◌++◌}
use Prim.Native.Nat.{ℕ, ◌<◌}
use native.Mathlib.Omega.{arith}
use Rattle.ledger.specs.Rows.{counted}
use Rattle.runs.specs.Runs.{Call, post, after, Origin}
use Rattle.runs.proofs.Own.{good_after, got, followed}

-- a run parted at a call in two ways: at one place, or at one that comes before the other
data Parted (l : List Call) (x : Call) (r l' : List Call) (x' : Call) (r' : List Call) : Type 0 where
  same : l ≡ l' → x ≡ x' → r ≡ r' → Parted l x r l' x' r'
  sooner : (between : List Call) → l' ≡ l ++ x ∷ between → Parted l x r l' x' r'
  later : (between : List Call) → l ≡ l' ++ x' ∷ between → Parted l x r l' x' r'

parted : (l : List Call) (x : Call) (r l' : List Call) (x' : Call) (r' : List Call) → l ++ x ∷ r ≡ l' ++ x' ∷ r' → Parted l x r l' x' r'
parted [] x r [] x' r' e =
    let head : x ≡ x' = cc in
    let rest : r ≡ r' = cc in
    same refl head rest
parted [] x r (z ∷ l') x' r' e = let head : z ∷ l' ≡ x ∷ l' = cc in sooner l' head
parted (z ∷ l) x r [] x' r' e = let head : z ∷ l ≡ x' ∷ l = cc in later l head
parted (z ∷ l) x r (z' ∷ l') x' r' e =
    let head : z ≡ z' = cc in
    let rest : l ++ x ∷ r ≡ l' ++ x' ∷ r' = cc in
    go head (parted l x r l' x' r' rest)
  where
    go : z ≡ z' → Parted l x r l' x' r' → Parted (z ∷ l) x r (z' ∷ l') x' r'
    go h (same a b c) = same (ap₂ {C = List Call} (λ v w. v ∷ w) h a) b c
    go h (sooner m q) = sooner m (ap₂ {C = List Call} (λ v w. v ∷ w) (sym h) q)
    go h (later m q) = later m (ap₂ {C = List Call} (λ v w. v ∷ w) h q)

module _ (c t : ℕ) (run : List Call) where
  -- where a post got ticket t, no later one does: the count is past it
  spent : (a b : Origin c t run) (between : List Call) → b.pre ≡ a.pre ++ post c a.kind a.p a.y a.number ∷ between → ⊥
  spent a b between q =
      let past = (followed c t a.kind a.p a.y a.number a.pre between a.posted.1).tracked.mine in
      let count = (got (after b.pre) (good_after b.pre) c b.kind b.p b.y b.number t b.posted.1).own in
      let past' : t < counted (after b.pre) c = subst (λ (l : List Call). t < counted (after l) c) (sym q) past in
      omega arith

  pub one_post : (a b : Origin c t run) → (a.pre ≡ b.pre) × (a.kind ≡ b.kind) × (a.p ≡ b.p) × (a.y ≡ b.y) × (a.number ≡ b.number) × (a.since ≡ b.since)
  one_post a b =
      go (parted a.pre (post c a.kind a.p a.y a.number) a.since b.pre (post c b.kind b.p b.y b.number) b.since (sym a.posted.0 ∙ b.posted.0))
    where
      go : Parted a.pre (post c a.kind a.p a.y a.number) a.since b.pre (post c b.kind b.p b.y b.number) b.since
          → (a.pre ≡ b.pre) × (a.kind ≡ b.kind) × (a.p ≡ b.p) × (a.y ≡ b.y) × (a.number ≡ b.number) × (a.since ≡ b.since)
      go (same e f g) = (e, cc, cc, cc, cc, g)
      go (sooner m q) = absurd (spent a b m q)
      go (later m q) = absurd (spent b a m q)
