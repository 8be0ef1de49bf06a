-- The table of refusal numbers, and the number that an answer carries. Definitions only.
use Rattle.std.specs.Prelude.{ℕ, Result, Ok, Err}
use Rattle.refusals.specs.declared.Refusal.{Refusal}

-- the table
abbrev pub number_of : Refusal → ℕ
number_of Refusal.NotFinite = 1
number_of Refusal.Pressure = 2
number_of Refusal.Temperature = 3
number_of Refusal.AboveRegion5 = 4
number_of Refusal.Region3 = 5
number_of Refusal.EnthalpyOrEntropy = 6
number_of Refusal.NoRegion = 7
number_of Refusal.WetOrSingular = 8
number_of Refusal.UnknownNumber = 9
number_of Refusal.FourOpen = 10
number_of Refusal.NotOpen = 11
number_of Refusal.NotReady = 12
number_of Refusal.TicketsSpent = 13
number_of Refusal.UnsoundDesk = 15
number_of Refusal.ShortSheet = 20
number_of Refusal.Version = 21
number_of Refusal.RowCount = 22
number_of Refusal.Layout = 23
number_of Refusal.RowKind = 24
number_of Refusal.ShortRoom = 25

-- the number that a number by itself has
abbrev pub itself : ℕ → ℕ
itself n = n

-- the number of an answer's refusal, 0 where nothing is refused; `numbered` says which number a refusal has
abbrev pub number_by : {T E : Type 0} → (E → ℕ) → Result T E → ℕ
number_by numbered (Ok x) = 0
number_by numbered (Err refusal) = numbered refusal

-- the same by the table
abbrev pub number_in : {T : Type 0} → Result T Refusal → ℕ
number_in answer = number_by number_of answer
