-- The marked points of document 01, as 02 changes them: what is asked, and what it must read. `proofs/Settled.antt` settles them by one statement. Definitions only.
use Rattle.std.specs.Prelude.{ℕ, false, List, [], ◌∷◌, Float}
use Rattle.std.specs.Float.{nan}
use Rattle.arith.specs.F64.{f64}
use Rattle.arith.specs.Printed.{less, printed}
use Rattle.subregions.specs.Subregions.{by_hs}
use Rattle.subregions.specs.declared.subregion.Subregion.{Subregion}
use Rattle.subregions.specs.declared.subregion.Subregion.TheVariants.{A, B, C}
use Rattle.sheet_writer.specs.Write.{sheet_of}
use Rattle.refusals.specs.Refusals.{number_in}
use Rattle.reply.specs.Answers.{region_of}
use Rattle.sums.specs.Queries.{answer_pt}

-- the answer to p in MPa and T in K; the subregion of 2 of h in kJ/kg and s in kJ/(kg K); the sheet of a note and rows
pub data Question : Type 0 where
  state : Float → Float → Question
  subregion : Float → Float → Question
  sheet : List ℕ → List ℕ → Question

-- the refusal number and the region of an answer, each 0 where there is none; a subregion; bytes
pub data Reading : Type 0 where
  answer : ℕ → ℕ → Reading
  lies : Subregion → Reading
  bytes : List ℕ → Reading

unfoldable pub reading_of : Question → Reading
reading_of (state p t) = answer (number_in (answer_pt p t)) (region_of (answer_pt p t))
reading_of (subregion h s) = lies (by_hs h s)
reading_of (sheet note rows) = bytes (sheet_of note rows)

pub record MarkedPoint : Type 0 where
  pub asked : Question
  pub reading : Reading

infix 80 ◌reads◌
abbrev ◌reads◌ : Question → Reading → MarkedPoint
q reads r = record { asked = q; reading = r }

abbrev refused : ℕ → Reading
refused n = answer n 0

abbrev region : ℕ → Reading
region n = answer 0 n

-- a decimal with one digit, or two, behind its point
abbrev tenths : ℕ → Float
tenths n = printed false n (less 1)

abbrev hundredths : ℕ → Float
hundredths n = printed false n (less 2)

unfoldable pub marked : List MarkedPoint
marked =
    state nan (f64 300) reads refused 1
    ∷ state (f64 0) (f64 300) reads refused 2
    ∷ state (f64 100) (hundredths 27314) reads refused 3
    ∷ state (f64 10) (hundredths 107315) reads region 2
    ∷ state (f64 10) (f64 1500) reads region 5
    ∷ state (tenths 105) (f64 1500) reads region 5
    ∷ state (tenths 1005) (f64 200) reads refused 2
    ∷ state (f64 100) (f64 900) reads region 2
    ∷ subregion (f64 2800) (tenths 58) reads lies C
    ∷ subregion (f64 2800) (f64 6) reads lies B
    ∷ subregion (f64 2800) (tenths 65) reads lies A
    ∷ subregion (f64 2800) (tenths 95) reads lies A
    ∷ sheet [] [] reads bytes (0 ∷ 0 ∷ 0 ∷ 0 ∷ 0 ∷ 0 ∷ 0 ∷ 0 ∷ 1 ∷ 0 ∷ 0 ∷ 0 ∷ 0 ∷ 0 ∷ 0 ∷ 0 ∷ [])
    ∷ []
