-- What becomes of a post goes by what it asks and by two numbers: how many tickets its caller was given and how many it has open. No one else's rows,
-- no turn and no pointer come into it. Assumes nothing.
use mathlib.Core.Path.{◌≡◌, refl, subst}
use mathlib.Core.Bool.{Bool, true, false, cond, ◌&&◌}
use Prim.Native.Nat.{ℕ, ◌≤◌, ◌<◌}
use lib.Dec.{leb, ltb}
use lib.Ieee.{Float}
use borrow.Author.Tests.{ltb-true, leb-true}
use Rattle.brackets.specs.declared.Bracket.{Bracket}
use Rattle.std.specs.Prelude.{Result, Ok, Err}
use Rattle.refusals.specs.declared.Refusal.{Refusal}
use Rattle.settle.specs.declared.Judged.{Judged}
use Rattle.settle.specs.Settle.{judged_of}
use Rattle.ledger.specs.declared.Desk.{Desk}
use Rattle.runs.specs.declared.Outcome.{Outcome}
use Rattle.runs.specs.declared.Answer.TheVariants.{Ticket}
use Rattle.ledger.specs.Rows.{most, counted, of_caller, tally, between, nameable, sound}
use Rattle.runs.specs.Model.{answers, refuse, Query, fresh, seated, admitted, judged_post, known, post_of}
use Rattle.ledger.proofs.Search.{and_true}
use Rattle.ledger.proofs.Tests.{named}
use Rattle.runs.specs.Runs.{asked}

-- a query as it is posted, for how many halvings, and the bracket that it starts from
pub record Job : Type 0 where
  pub query : Query
  pub number : ℕ
  pub bracket : Bracket

pub data Ruling : Type 0 where
  against : Refusal → Ruling
  given : Job → Ruling

-- n tickets given, m open
abbrev ruled_on : ℕ → Float → Float → ℕ → ℕ → ℕ → Result Judged Refusal → Ruling
ruled_on k p y number n m (Err e) = against e
ruled_on k p y number n m (Ok j) =
    cond (ltb n most)
    (cond (ltb m 4) (given (record { query = asked k j.phase p y; number = number; bracket = record { lo = j.lo; hi = j.hi } })) (against Refusal.FourOpen))
    (against Refusal.TicketsSpent)

unfoldable pub ruling : ℕ → ℕ → Float → Float → ℕ → ℕ → ℕ → Ruling
ruling c k p y number n m = cond (known c k number) (ruled_on k p y number n m (judged_of k p y)) (against Refusal.UnknownNumber)

-- the ruling on a post to the desk d
abbrev pub ruling_at : Desk → ℕ → ℕ → Float → Float → ℕ → Ruling
ruling_at d c k p y number = ruling c k p y number (counted d c) (tally (of_caller c) d)

-- the desk with a job of caller c
abbrev pub seats : Desk → ℕ → Job → Desk
seats d c j = seated d (fresh c (counted d c) j.query j.number j.bracket)

abbrev pub on_ruling : Desk → ℕ → Ruling → Outcome
on_ruling d c (against n) = refuse n d
on_ruling d c (given j) = answers (Ticket (counted d c)) (seats d c j)

pub post_ruled : (d : Desk) (c k : ℕ) (p y : Float) (number : ℕ) → sound d ≡ true → post_of d c k p y number ≡ on_ruling d c (ruling_at d c k p y number)
unfolding post_of judged_post admitted ruling
post_ruled d c k p y number s = rw s (go (known c k number) (judged_of k p y) (ltb (counted d c) most) (ltb (tally (of_caller c) d) 4) refl refl)
  where
    go : (b : Bool) (j : Result Judged Refusal) (u v : Bool) → ltb (counted d c) most ≡ u → ltb (tally (of_caller c) d) 4 ≡ v
        → cond b (judged_post d c k p y number j) (refuse Refusal.UnknownNumber d) ≡ on_ruling d c (cond b (ruled_on k p y number (counted d c) (tally (of_caller c) d) j) (against Refusal.UnknownNumber))
    go false j u v hu hv = refl
    go true (Err n) u v hu hv = refl
    go true (Ok j) false v hu hv = rw hu refl
    go true (Ok j) true false hu hv = rw (hu, hv) refl
    go true (Ok j) true true hu hv = rw (hu, hv) refl

-- what the test before any value says
pub record Known (c k number : ℕ) : Type 0 where
  pub who : c < 8
  pub kind_low : 2 ≤ k
  pub kind_high : k ≤ 3
  pub number_low : 10 ≤ number
  pub number_high : number ≤ 50

pub known_is : (c k number : ℕ) → known c k number ≡ true → Known c k number
unfolding known
known_is c k number e =
    let a = and_true (ltb c 8) (between 2 3 k && nameable number) e in
    let b = and_true (between 2 3 k) (nameable number) a.1 in
    let l = and_true (leb 2 k) (leb k 3) b.0 in
    let n = named number b.1 in
    record { who = ltb-true c 8 a.0; kind_low = leb-true 2 k l.0; kind_high = leb-true k 3 l.1; number_low = n.0; number_high = n.1 }

-- what a post that is granted has shown
pub record Granted (c k : ℕ) (p y : Float) (number n m : ℕ) (j : Job) : Type 0 where
  pub who : c < 8
  pub room : n < most
  pub spare : m < 4
  pub kind_low : 2 ≤ k
  pub kind_high : k ≤ 3
  pub number_low : 10 ≤ number
  pub number_high : number ≤ 50
  pub number_posted : j.number ≡ number
  pub query : j.query ≡ asked k j.query.phase p y
  pub judged_to : judged_of k p y ≡ Ok (record { phase = j.query.phase; lo = j.bracket.lo; hi = j.bracket.hi })

pub ruling_given : (c k : ℕ) (p y : Float) (number n m : ℕ) (j : Job) → ruling c k p y number n m ≡ given j → Granted c k p y number n m j
unfolding ruling
ruling_given c k p y number n m j e = go (known c k number) refl (judged_of k p y) refl (ltb n most) refl (ltb m 4) refl
  where
    go : (b : Bool) → known c k number ≡ b → (q : Result Judged Refusal) → judged_of k p y ≡ q → (u : Bool) → ltb n most ≡ u → (v : Bool) → ltb m 4 ≡ v → Granted c k p y number n m j
    go false x q w u hu v hv = absurd (let f = rw x at e in cc)
    go true x (Err o) w u hu v hv = absurd (let f = rw (x, w) at e in cc)
    go true x (Ok a) w false hu v hv = absurd (let f = rw (x, w, hu) at e in cc)
    go true x (Ok a) w true hu false hv = absurd (let f = rw (x, w, hu, hv) at e in cc)
    go true x (Ok a) w true hu true hv =
        let f = rw (x, w, hu, hv) at e in
        let same : ◌≡◌ {A = Job} (record { query = asked k a.phase p y; number = number; bracket = record { lo = a.lo; hi = a.hi } }) j = cc in
        let known = known_is c k number x in
        subst (λ (i : Job). Granted c k p y number n m i) same (record {
          who = known.who;
          room = ltb-true n most hu;
          spare = ltb-true m 4 hv;
          kind_low = known.kind_low;
          kind_high = known.kind_high;
          number_low = known.number_low;
          number_high = known.number_high;
          number_posted = refl;
          query = refl;
          judged_to = w;
        })
