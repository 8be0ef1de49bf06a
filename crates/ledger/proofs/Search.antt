-- Laws of searching and counting below a bound. Nothing of the desk is in them. Assumes nothing.
use mathlib.Core.Path.{◌≡◌, refl, ap}
use mathlib.Core.Logic.{◌≢◌}
use mathlib.Core.Bool.{Bool, true, false, cond, ◌&&◌}
use Prim.Native.Nat.{ℕ, zero, suc, ◌+◌, ◌*◌, ◌≤◌, ◌<◌}
use native.Mathlib.Omega.{arith}
use native.Mathlib.Decide.{ℕ_discrete}
use native.Mathlib.Numerals.{add-one}
use lib.Dec.{eqb, ltb}
use borrow.Author.Tests.{eq-eqb, ne_eqb, ltb-true, ltb-false}
use Rattle.ledger.specs.Search.{least, bit, count, upto}

pub not_some : (b : Bool) → (b ≢ true) → b ≡ false
not_some true h = absurd (h refl)
not_some false h = refl

pub and_true : (a b : Bool) → a && b ≡ true → (a ≡ true) × (b ≡ true)
and_true true b e = (refl, e)
and_true false b e = (e, absurd cc)

pub upto_true : (f : ℕ → Bool) (n : ℕ) → ((i : ℕ) → i < n → f i ≡ true) → upto f n ≡ true
unfolding upto
upto_true f zero h = refl
upto_true f (suc n) h = rw (h zero (omega arith)) (upto_true (λ k. f (suc k)) n (λ i l. h (suc i) (omega arith)))

pub upto_each : (f : ℕ → Bool) (n : ℕ) → upto f n ≡ true → (i : ℕ) → i < n → f i ≡ true
unfolding upto
upto_each f zero e i l = absurd (omega arith)
upto_each f (suc n) e zero l = (and_true (f zero) (upto (λ k. f (suc k)) n) e).0
upto_each f (suc n) e (suc i) l = upto_each (λ k. f (suc k)) n (and_true (f zero) (upto (λ k. f (suc k)) n) e).1 i (omega arith)

pub least_true : (f : ℕ → Bool) (n : ℕ) → least f n < n → f (least f n) ≡ true
unfolding least
least_true f zero h = absurd (omega arith)
least_true f (suc n) h = go (least_true (λ k. f (suc k)) n) (f zero) refl
  where
    go : (least (λ k. f (suc k)) n < n → f (suc (least (λ k. f (suc k)) n)) ≡ true) → (b : Bool) → f zero ≡ b → f (least f (suc n)) ≡ true
    go ih true e = rw e e
    go ih false e = rw e (ih (let l = rw e at h in omega arith))

pub least_le : (f : ℕ → Bool) (n i : ℕ) → i < n → f i ≡ true → least f n ≤ i
unfolding least
least_le f zero i l h = absurd (omega arith)
least_le f (suc n) zero l h = rw h (omega arith)
least_le f (suc n) (suc i) l h = go (least_le (λ k. f (suc k)) n i (omega arith) h) (f zero) refl
  where
    go : least (λ k. f (suc k)) n ≤ i → (b : Bool) → f zero ≡ b → least f (suc n) ≤ suc i
    go ih true e = rw e (omega arith)
    go ih false e = rw e (omega arith)

-- what a loop that walks up from 0 shows: none accepted on the way, then one, or the end
pub least_is : (f : ℕ → Bool) (n k : ℕ) → k < n → f k ≡ true → ((i : ℕ) → i < k → f i ≡ false) → least f n ≡ k
least_is f n k l e h = go (ltb (least f n) k) refl
  where
    go : (b : Bool) → ltb (least f n) k ≡ b → least f n ≡ k
    go false q = omega (arith, ltb-false (least f n) k q, least_le f n k l e)
    go true q =
        let m = ltb-true (least f n) k q in
        absurd (let t = least_true f n (omega (arith, least_le f n k l e)) in let u = h (least f n) m in cc)

pub least_none : (f : ℕ → Bool) (n : ℕ) → ((i : ℕ) → i < n → f i ≡ false) → least f n ≡ n
unfolding least
least_none f zero h = refl
least_none f (suc n) h = rw (h zero (omega arith)) (ap suc (least_none (λ k. f (suc k)) n (λ i l. h (suc i) (omega arith))))

pub count_snoc : (f : ℕ → Bool) (n : ℕ) → count f (suc n) ≡ count f n + bit (f n)
unfolding count
count_snoc f zero = omega arith
count_snoc f (suc n) = let e = count_snoc (λ k. f (suc k)) n in omega arith

-- no k below n is accepted
pub none_counted : (f : ℕ → Bool) (n : ℕ) → n ≤ least f n → count f n ≡ 0
unfolding least count
none_counted f zero h = refl
none_counted f (suc n) h = go (none_counted (λ k. f (suc k)) n) (f zero) refl
  where
    go : (n ≤ least (λ k. f (suc k)) n → count (λ k. f (suc k)) n ≡ 0) → (b : Bool) → f zero ≡ b → count f (suc n) ≡ 0
    go ih true e = absurd (let l = rw e at h in omega arith)
    go ih false e = rw e (rw (ih (let l = rw e at h in omega arith)))

pub some_counted : (f : ℕ → Bool) (n i : ℕ) → i < n → f i ≡ true → 1 ≤ count f n
unfolding count
some_counted f zero i l h = absurd (omega arith)
some_counted f (suc n) zero l h = rw h (omega arith)
some_counted f (suc n) (suc i) l h = let ih = some_counted (λ k. f (suc k)) n i (omega arith) h in omega arith

pub count_le : (f : ℕ → Bool) (n : ℕ) → count f n ≤ n
unfolding count
count_le f zero = omega arith
count_le f (suc n) = go (f zero) (count_le (λ k. f (suc k)) n)
  where
    go : (b : Bool) → count (λ k. f (suc k)) n ≤ n → bit b + count (λ k. f (suc k)) n ≤ suc n
    go true h = omega arith
    go false h = omega arith

pub count_same : (f g : ℕ → Bool) (n : ℕ) → ((i : ℕ) → i < n → g i ≡ f i) → count g n ≡ count f n
unfolding count
count_same f g zero h = refl
count_same f g (suc n) h = rw (h zero (omega arith)) (rw (count_same (λ k. f (suc k)) (λ k. g (suc k)) n (λ i l. h (suc i) (omega arith))))

-- f and g differ at j alone
pub count_change : (f g : ℕ → Bool) (n j : ℕ) → j < n → ((i : ℕ) → i < n → i ≢ j → g i ≡ f i) → count g n + bit (f j) ≡ count f n + bit (g j)
unfolding count
count_change f g zero j l h = absurd (omega arith)
count_change f g (suc n) zero l h =
    let e = count_same (λ k. f (suc k)) (λ k. g (suc k)) n (λ i m. h (suc i) (omega arith) (λ q. absurd (omega arith))) in omega arith
count_change f g (suc n) (suc j) l h =
    let e = count_change (λ k. f (suc k)) (λ k. g (suc k)) n j (omega arith) (λ i m d. h (suc i) (omega arith) (λ q. d (omega arith))) in
    rw (h zero (omega arith) (λ q. absurd (omega arith))) (omega arith)

-- at most one is accepted
pub counted_once : (f : ℕ → Bool) (n i j : ℕ) → count f n ≤ 1 → i < n → j < n → f i ≡ true → f j ≡ true → i ≡ j
counted_once f n i j h li lj ei ej = go (ℕ_discrete i j)
  where
    g : ℕ → Bool
    g k = cond (eqb k j) false (f k)

    go : Dec (i ≡ j) → i ≡ j
    go (yes e) = e
    go (no e) =
        let a : g i ≡ true = rw (ne_eqb i j e) ei in
        let b : g j ≡ false = rw (eq-eqb j j refl) in
        let c = count_change f g n j lj (λ k l q. rw (ne_eqb k j q)) in
        absurd (omega (arith, some_counted g n i li a, ap bit b, ap bit ej))

-- no fewer of more
pub count_part : (f : ℕ → Bool) (m n : ℕ) → m ≤ n → count f m ≤ count f n
unfolding count
count_part f zero n h = omega arith
count_part f (suc m) zero h = absurd (omega arith)
count_part f (suc m) (suc n) h = let e = count_part (λ k. f (suc k)) m n (omega arith) in omega arith

pub count_zero : (f : ℕ → Bool) (n : ℕ) → ((i : ℕ) → i < n → f i ≡ false) → count f n ≡ 0
unfolding count
count_zero f zero h = refl
count_zero f (suc n) h = rw (h zero (omega arith)) (rw (count_zero (λ k. f (suc k)) n (λ i l. h (suc i) (omega arith))))

-- ---- sums, for the pigeonhole: n things, each of one of m owners

unfoldable pub sum : (ℕ → ℕ) → ℕ → ℕ
sum t zero = zero
sum t (suc m) = t zero + sum (λ c. t (suc c)) m

sum_add : (t u : ℕ → ℕ) (m : ℕ) → sum (λ c. t c + u c) m ≡ sum t m + sum u m
unfolding sum
sum_add t u zero = refl
sum_add t u (suc m) = let e = sum_add (λ c. t (suc c)) (λ c. u (suc c)) m in omega arith

sum_has : (t : ℕ → ℕ) (m c : ℕ) → c < m → 1 ≤ t c → 1 ≤ sum t m
unfolding sum
sum_has t zero c l h = absurd (omega arith)
sum_has t (suc m) zero l h = omega arith
sum_has t (suc m) (suc c) l h = let e = sum_has (λ c. t (suc c)) m c (omega arith) h in omega arith

sum_le : (t : ℕ → ℕ) (m : ℕ) → ((c : ℕ) → t c ≤ 4) → sum t m ≤ 4 * m
unfolding sum
sum_le t zero h = omega arith
sum_le t (suc m) h = let e = sum_le (λ c. t (suc c)) m (λ c. h (suc c)) in omega (arith, h zero)

pub sum_lt : (t : ℕ → ℕ) (m c : ℕ) → ((c : ℕ) → t c ≤ 4) → c < m → t c < 4 → sum t m < 4 * m
unfolding sum
sum_lt t zero c h l k = absurd (omega arith)
sum_lt t (suc m) zero h l k = let e = sum_le (λ c. t (suc c)) m (λ c. h (suc c)) in omega arith
sum_lt t (suc m) (suc c) h l k = let e = sum_lt (λ c. t (suc c)) m c (λ c. h (suc c)) (omega arith) k in omega (arith, h zero)

pub spread : (f : ℕ → ℕ → Bool) (m n : ℕ) → ((i : ℕ) → i < n → (c : ℕ) × (c < m) × (f c i ≡ true)) → n ≤ sum (λ c. count (f c) n) m
unfolding count
spread f m zero h = omega arith
spread f m (suc n) h =
    let ih = spread (λ c i. f c (suc i)) m n (λ i l. h (suc i) (omega arith)) in
    let o = h zero (omega arith) in
    let one : 1 ≤ sum (λ c. bit (f c zero)) m = sum_has (λ c. bit (f c zero)) m o.0 o.1 (rw o.2 (omega arith)) in
    omega (arith, sum_add (λ c. bit (f c zero)) (λ c. count (λ k. f c (suc k)) n) m)

-- ---- what a loop shows that walks up from 0

module _ (f : ℕ → Bool) (k : ℕ) where
  pub count_yes : f k ≡ true → count f (k + 1) ≡ count f k + 1
  count_yes e = omega (arith, ap (λ (n : ℕ). count f n) (add-one k), count_snoc f k, ap bit e)

  pub count_no : f k ≡ false → count f (k + 1) ≡ count f k
  count_no e = omega (arith, ap (λ (n : ℕ). count f n) (add-one k), count_snoc f k, ap bit e)

pub upto_fails : (f : ℕ → Bool) (n i : ℕ) → i < n → f i ≡ false → upto f n ≡ false
upto_fails f n i l e = not_some (upto f n) (λ h. let g = upto_each f n h i l in absurd cc)

pub upto_more : (f : ℕ → Bool) (n : ℕ) → upto f n ≡ true → f n ≡ true → upto f (n + 1) ≡ true
upto_more f n h e = upto_true f (n + 1) (λ i l. go i l (ℕ_discrete i n))
  where
    go : (i : ℕ) → i < n + 1 → Dec (i ≡ n) → f i ≡ true
    go i l (yes q) = rw q e
    go i l (no q) = upto_each f n h i (omega arith)
