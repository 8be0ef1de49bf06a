-- `text::Line::fixed` meets its contract: x is read from its own bits, whose fields are its sign and its size, and the text is the sign and the pointed
-- number one behind the other; what is not modest is left to `column`. Assumes nothing.
use mathlib.Core.Path.{◌≡◌, sym, ap, ◌∙◌, subst}
use mathlib.Core.Bool.{Bool, true, false, not, true≢false, cond}
use mathlib.Core.List.{List, [], ◌∷◌, ◌++◌, append_assoc}
use Prim.Native.Nat.{ℕ, ◌^◌, ◌≤◌, min}
use native.Mathlib.Nat.{pow-le-pow_right}
use native.Mathlib.Omega.{arith}
use lib.Dec.{T, leb}
use lib.Ieee.{Float, nan, inf, fin, is_nan, binary64, fits, of_bits, to_bits}
use lib.Ieee.Bits.{of_bits-to_bits}
use Rattle.text.specs.Texts.{value_of, column_of}
use Rattle.text.specs.Decimals.{scaled_of, pointed_of, sign_of, modest, fixed_of}
use Rattle.text.proofs.Rounding.{bits_bound, bits_sign}
use Rattle.text.proofs.Lines.{then_line, said_line}
use Rattle.text.proofs.Line.fixed.Goals as goal

-- an f64 is read from its own bits
own : (x : Float) → fits binary64 x ≡ true → of_bits binary64 (to_bits binary64 x) ≡ x
own x h = of_bits-to_bits binary64 x (subst T (sym h) tt)

no_nan : (x : Float) → modest x ≡ true → T (not (is_nan x))
unfolding modest is_nan
no_nan nan h = absurd (true≢false (sym h))
no_nan (inf s) h = tt
no_nan (fin s m e) h = tt

as-column : (x : Float) (places end : ℕ) → modest x ≡ false → value_of x ++ end ∷ [] ≡ fixed_of x places ++ end ∷ []
unfolding fixed_of
as-column x places end h = rw h

-- the sign and the pointed number, as they come from the bits b
as-decimals : (x : Float) (b places k scale n end : ℕ) → of_bits binary64 b ≡ x → modest x ≡ true → k ≡ min places 3 → scale ≡ 10 ^ k
    → n ≡ scaled_of scale (of_bits binary64 b) → cond (leb (2 ^ 63) b) (45 ∷ []) [] ++ (pointed_of k n ++ end ∷ []) ≡ fixed_of x places ++ end ∷ []
unfolding fixed_of
as-decimals x b places k scale n end o h e s q =
    let sign : cond (leb (2 ^ 63) b) (45 ∷ []) [] ≡ sign_of x = sym (bits_sign b (ap modest o ∙ h)) ∙ ap sign_of o in
    let number : n ≡ scaled_of (10 ^ k) x = q ∙ ap (λ (z : ℕ). scaled_of z (of_bits binary64 b)) s ∙ ap (scaled_of (10 ^ k)) o in
    ap (λ (l : List ℕ). l ++ (pointed_of k n ++ end ∷ [])) sign
    ∙ ap (λ (z : ℕ). sign_of x ++ (pointed_of k z ++ end ∷ [])) number
    ∙ sym (append_assoc (sign_of x) (pointed_of k (scaled_of (10 ^ k) x)) (end ∷ []))
    ∙ ap (λ (z : ℕ). sign_of x ++ pointed_of z (scaled_of (10 ^ z) x) ++ end ∷ []) e
    ∙ sym (ap (λ (t : Bool). cond t (sign_of x ++ pointed_of (min places 3) (scaled_of (10 ^ min places 3) x)) (value_of x) ++ end ∷ []) h)

pub returns-else-is_modest : goal.returns-else-is_modest
unfolding column_of
returns-else-is_modest c =
    let a = c.args in
    said_line (as-column a.x a.places a.end (sym c.is_modest.ensures ∙ c.if-is_modest.false)) c.column.ensures

pub float_to_bits-bits : goal.float_to_bits-bits
float_to_bits-bits c =
    no_nan c.args.x (sym c.is_modest.ensures ∙ c.if-is_modest.true)

pub scaled-n-requires : goal.scaled-n-requires
scaled-n-requires c =
    let x = c.args.x in
    let h : modest x ≡ true = sym c.is_modest.ensures ∙ c.if-is_modest.true in
    let b = bits_bound (to_bits binary64 x) (ap modest (own x c.well_formed.1.0.1) ∙ h) in
    let k = c.min-k.result in
    let s : 10 ^ k ≤ 10 ^ 3 = pow-le-pow_right {n = 10} (omega arith) {i = k} {j = 3} (omega arith) in
    (omega arith, omega arith)

pub returns-then-is_modest : goal.returns-then-is_modest
returns-then-is_modest c =
    let a = c.args in
    said_line
    (as-decimals a.x (to_bits binary64 a.x) a.places _ _ _ a.end
    (own a.x c.well_formed.1.0.1)
    (sym c.is_modest.ensures ∙ c.if-is_modest.true)
    c.min-k.ensures
    c.power_of_ten.ensures
    c.scaled-n.ensures)
    (then_line c.sign.ensures c.pointed.ensures)
