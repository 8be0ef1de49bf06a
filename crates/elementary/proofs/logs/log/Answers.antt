-- `elementary::logs::log` meets its contract: x is read from its own bits, and each return is a case of `log_of`. Assumes nothing.
use Rattle.std.proofs.Common.{◌≡◌, ◌+◌, ◌-◌, ◌/◌, ◌%◌, ◌^◌, sym, refl, ap, ◌∙◌, arith}
use lib.Ieee.{binary64, of_bits, to_bits, of_int, Float}
use Rattle.elementary.specs.Log.{log_sum, Parts, parts_at, log_of}
use Rattle.arith.proofs.Literals.{nan_is}
use Rattle.arith.proofs.Signs.{own, no_nan, no_nan_bits, plus_infinity}
use Rattle.elementary.proofs.Logarithm.{log_small, log_parts, parts_under, parts_over, made, no_log, log_infinity}
use Rattle.elementary.proofs.logs.log.Goals as goal

-- a sum that was made of the parts of x
summed : (p : Parts) (m e : Float) → m ≡ p.m → e ≡ of_int binary64 p.e → log_sum m e ≡ log_sum p.m (of_int binary64 p.e)
summed p m e h k = cc

pub float_to_bits-b : goal.float_to_bits-b
unfolding of_bits
float_to_bits-b c = no_nan c.args.x c.if-x.true

pub returns-then-b-lt4503599627370496 : goal.returns-then-b-lt4503599627370496
returns-then-b-lt4503599627370496 c =
    nan_is ∙ sym (log_small (to_bits binary64 c.args.x) c.if-b-lt4503599627370496.true) ∙ ap log_of (own c.args.x c.well_formed.0.1)

pub float_from_bits-t : goal.float_from_bits-t
float_from_bits-t c = no_nan_bits _ (omega arith)

pub returns-then-t-lt2251799813685248 : goal.returns-then-t-lt2251799813685248
returns-then-t-lt2251799813685248 c =
    let b = to_bits binary64 c.args.x in
    let f = 2 ^ 52 + b % 2 ^ 52 in
    let k = b / 2 ^ 52 - 1 in
    let p = parts_under f k (omega arith) in
    c.log_sum.ensures
    ∙ summed (parts_at f k) _ _ (made 1022 52 (b % 2 ^ 52) (omega arith) (omega arith) refl ∙ sym (ap (λ z. z.m) p)) (c.difference.ensures ∙ sym (ap (λ z. of_int binary64 z.e) p))
    ∙ sym (log_parts b k f (omega arith) (omega arith) refl (omega arith))
    ∙ ap log_of (own c.args.x c.well_formed.0.1)

pub float_from_bits-t-then-b-lt9218868437227405312 : goal.float_from_bits-t-then-b-lt9218868437227405312
float_from_bits-t-then-b-lt9218868437227405312 c = no_nan_bits _ (omega arith)

pub returns-then-b-lt9218868437227405312 : goal.returns-then-b-lt9218868437227405312
returns-then-b-lt9218868437227405312 c =
    let b = to_bits binary64 c.args.x in
    let f = 2 ^ 52 + b % 2 ^ 52 in
    let k = b / 2 ^ 52 - 1 in
    let p = parts_over f k (omega arith) in
    c.log_sum-then-b-lt9218868437227405312.ensures
    ∙ summed (parts_at f k) _ _ (made 1021 53 (b % 2 ^ 52) (omega arith) (omega arith) refl ∙ sym (ap (λ z. z.m) p)) (c.difference-then-b-lt9218868437227405312.ensures ∙ sym (ap (λ z. of_int binary64 z.e) p))
    ∙ sym (log_parts b k f (omega arith) (omega arith) refl (omega arith))
    ∙ ap log_of (own c.args.x c.well_formed.0.1)

pub returns-else-b-lt9218868437227405312 : goal.returns-else-b-lt9218868437227405312
unfolding of_bits
returns-else-b-lt9218868437227405312 c =
    nan_is ∙ sym (ap log_of (plus_infinity c.args.x c.well_formed.0.1 c.if-x.true c.if-b-lt9218868437227405312.false) ∙ log_infinity)

pub returns-else-x : goal.returns-else-x
unfolding of_bits
returns-else-x c = nan_is ∙ sym (no_log c.args.x c.if-x.false)
