-- What a judged post says in the paper's words: its region and bracket for each case. The number of a refusal is that of the table. Definitions only.
use Rattle.std.specs.Prelude.{ℕ, List, [], ◌∷◌, Float, Result, Ok, Err}
use Rattle.refusals.specs.declared.Refusal.{Refusal}
use Rattle.settle.specs.Phases as Phases
use Rattle.settle.specs.declared.Judged.{Judged}

-- the region, 0 if refused
abbrev pub region_of : Result Judged Refusal → ℕ
region_of (Ok judged) = Phases.region_of judged.phase
region_of (Err refusal) = 0

-- the ends of the bracket; a refusal has none
abbrev pub values_of : Result Judged Refusal → List Float
values_of (Ok judged) = judged.lo ∷ judged.hi ∷ []
values_of (Err refusal) = []
