-- An answer has nine values, so that one is read whatever is taken for a value behind them. Assumes nothing.
use Prim.Native.Nat.{ℕ, zero, suc, ◌<◌}
use native.Mathlib.Nat.{not-suc-le-zero, le_of_suc-le-suc}
use native.Mathlib.Omega.{arith}
use mathlib.Core.Path.{◌≡◌, refl, ap, ◌∙◌}
use mathlib.Core.List.{List, [], ◌∷◌}
use lib.ListN.{length, get_or}
use Rattle.reply.specs.Answers.{values_of}
use Rattle.reply.specs.declared.Answer.{Answer}
use Rattle.refusals.specs.declared.Refusal.{Refusal}
use Rattle.std.proofs.Common.{Float, Option, Result, Ok, Err}

any : {A : Type 0} (l : List A) (i : ℕ) (a b : A) → i < length l → get_or l i a ≡ get_or l i b
any [] i a b h = absurd (not-suc-le-zero h)
any (x ∷ l) zero a b h = refl
any (x ∷ l) (suc i) a b h = any l i a b (le_of_suc-le-suc h)

nine : (a : Result Answer Refusal) → length (values_of a) ≡ 9
nine (Ok (Answer.Single a)) = refl
nine (Ok (Answer.Wet a)) = refl
nine (Err refusal) = refl

pub value_at : (values : List (Option Float)) (a : Result Answer Refusal) (i : ℕ) (u v : Option Float) → values ≡ values_of a → i < 9 → get_or values i u ≡ get_or values i v
value_at values a i u v e h = any values i u v (omega (arith, ap length e ∙ nine a))
