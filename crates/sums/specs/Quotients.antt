-- Derivatives at the state that a query gives. Definitions only.
use Rattle.std.specs.Prelude.{ℕ, cond, Float, Result, Ok, Err}
use Rattle.workings.specs.Workings.{slopes_at}
use Rattle.refusals.specs.declared.Refusal.{Refusal}
use Rattle.slopes.specs.Slopes.{ratio_at, all_known}
use Rattle.sums.specs.Queries.{answer_of}
use Rattle.reply.specs.declared.Answer.{Answer}

-- of a state of one phase alone
abbrev pub quotient_at : Result Answer Refusal → ℕ → ℕ → ℕ → Result Float Refusal
quotient_at (Ok (Answer.Single a)) z x y = ratio_at (slopes_at a.equation a.p a.t) z x y
quotient_at (Ok (Answer.Wet a)) z x y = Err Refusal.WetOrSingular
quotient_at (Err refusal) z x y = Err refusal

-- Unknown properties come first, then the query's own refusals, of which that of an unknown kind is the same 9, then 8.
unfoldable pub quotient_of : ℕ → Float → Float → ℕ → ℕ → ℕ → Result Float Refusal
quotient_of kind c d z x y = cond (all_known z x y) (quotient_at (answer_of kind c d) z x y) (Err Refusal.UnknownNumber)
