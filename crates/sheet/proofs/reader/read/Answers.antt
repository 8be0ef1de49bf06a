-- `sheet::reader::read` meets its contract: what the trailer gave, and the kinds of the rows that it names. Assumes nothing.
use mathlib.Core.Path.{◌≡◌, sym, ap, ◌∙◌}
use mathlib.Core.Bool.{Bool, true, false}
use mathlib.Core.List.{List}
use Prim.Native.Nat.{ℕ, ◌+◌, ◌-◌, ◌*◌}
use native.Mathlib.Nat.{add-sub_cancel_left}
use native.Mathlib.Omega.{arith}
use lib.ListN.{take, drop}
use Rattle.std.proofs.lemmas.Result.{err_from_is_err_and}
use Rattle.sheet.specs.Rows.{kinds_known}
use Rattle.sheet.specs.Read.{rows_of}
use Rattle.sheet.proofs.ReadLaws.{trailer_fits, read_refused, read_rows}
use Rattle.sheet.proofs.reader.read.Goals as goal

-- the part that is lent is the rows
rows_kinds : (s : List ℕ) (n first : ℕ) (t b : Bool) → t ≡ kinds_known n (take (first + 24 * n - first) (drop first s)) → t ≡ b → kinds_known n (rows_of s n first) ≡ b
rows_kinds s n first t b e q = ap (λ (k : ℕ). kinds_known n (take k (drop first s))) (sym (add-sub_cancel_left first (24 * n))) ∙ sym e ∙ q

pub overflow_mul-rows : goal.overflow_mul-rows
overflow_mul-rows c = omega (arith, trailer_fits _ _ _ (sym c.trailer.ensures ∙ c.in_ok-rows.was))

pub overflow_add-rows : goal.overflow_add-rows
overflow_add-rows c = omega (arith, trailer_fits _ _ _ (sym c.trailer.ensures ∙ c.in_ok-rows.was))

pub slice_bounds-kinds_known-end : goal.slice_bounds-kinds_known-end
slice_bounds-kinds_known-end c = omega (arith, trailer_fits _ _ _ (sym c.trailer.ensures ∙ c.in_ok-rows.was))

pub returns-in_err-rows : goal.returns-in_err-rows
returns-in_err-rows c =
    let p = err_from_is_err_and c.from_residual.result c.from_residual.ensures.1 in
    rw (p.1, p.2) (sym (read_refused _ _ (sym c.trailer.ensures ∙ c.in_err-rows.was)))

pub returns-then-not-kinds_known : goal.returns-then-not-kinds_known
returns-then-not-kinds_known c =
    sym (read_rows _ _ _ false (sym c.trailer.ensures ∙ c.in_ok-rows.was) (rows_kinds _ _ _ _ false c.kinds_known.ensures c.if-not-kinds_known.true))

pub returns : goal.returns
returns c =
    sym (read_rows _ _ _ true (sym c.trailer.ensures ∙ c.in_ok-rows.was) (rows_kinds _ _ _ _ true c.kinds_known.ensures c.if-not-kinds_known.false))
