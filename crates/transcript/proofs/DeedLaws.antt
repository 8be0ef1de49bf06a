-- What is known of a record that was played: what it takes is there, and where something is left it takes something. Assumes nothing.
use Prim.Native.Nat.{ℕ, ◌≤◌, ◌<◌}
use mathlib.Core.List.{List}
use native.Mathlib.Omega.{arith}
use lib.ListN.{length}
use Rattle.ledger.specs.declared.Desk.{Desk}
use Rattle.records.specs.Records.{deed_of}
use Rattle.records.proofs.Ways.{read_has}
use Rattle.transcript.specs.declared.Step.{Step}
use Rattle.transcript.specs.Steps.{taken_by, Done}

-- the bytes that a record takes are there
taken_there : (rest : List ℕ) → taken_by rest (deed_of rest) ≤ length rest
unfolding taken_by
taken_there rest =
    read_has (λ d. taken_by rest d ≤ length rest) rest
    (record { asked = λ h call. h; turns = λ h n l. h; given = λ h. h; shown = λ h. h; bad = omega arith })

-- and they are some, where some are left
taken_some : (rest : List ℕ) → 0 < length rest → 0 < taken_by rest (deed_of rest)
unfolding taken_by
taken_some rest s =
    read_has (λ d. 0 < taken_by rest d) rest
    (record { asked = λ h call. omega arith; turns = λ h n l. omega arith; given = λ h. omega arith; shown = λ h. omega arith; bad = s })

-- the same of what was done
pub there : {rest : List ℕ} {d : Desk} {r : Step} → Done rest d r → r.taken ≤ length rest
there {rest} {d} {r} x = rw x.taken (taken_there rest)

pub some : {rest : List ℕ} {d : Desk} {r : Step} → Done rest d r → 0 < length rest → 0 < r.taken
some {rest} {d} {r} x h = rw x.taken (taken_some rest h)
