-- Magnitudes with a sign, as integers: products, sums, and how far two of one sign are apart.
use Rattle.std.proofs.Common.{◌≡◌, ℕ, ◌+◌, ◌-◌, ◌*◌, ◌≤◌, Bool, true, false, not, ℤ, pos, ◌+ℤ◌, ◌-ℤ◌, ◌*ℤ◌, neg_ℤ, nat_abs, sym, refl, ap, ◌∙◌, arith}
use native.Mathlib.Nat.{mul-sub}
use lib.IntN.{neg_ℤ-neg_ℤ}
use lib.Ieee.{unlike}
use Rattle.std.proofs.lemmas.Int.{ints}
use Rattle.exact.specs.Value.{signed}
use Rattle.exact.specs.Rounding.{OneRounding}
use Rattle.exact.proofs.Integer.{*ℤ-negℤ, negℤ-*ℤ}
use Rattle.exact.proofs.Near.{Near, Relative}

pub signed-zero : (s : Bool) → signed s 0 ≡ pos 0
signed-zero false = refl
signed-zero true = refl

pub signed-none : (s r : Bool) (x : ℕ) → x ≡ 0 → signed s x ≡ signed r x
signed-none s r x e = ap (signed s) e ∙ signed-zero s ∙ sym (ap (signed r) e ∙ signed-zero r)

pub nat_abs-signed : (s : Bool) (x : ℕ) → nat_abs (signed s x) ≡ x
nat_abs-signed false x = refl
nat_abs-signed true x = omega (arith, ints)

pub signed_mul : (s t : Bool) (x y : ℕ) → signed s x *ℤ signed t y ≡ signed (unlike s t) (x * y)
signed_mul false false x y = refl
signed_mul false true x y = *ℤ-negℤ (pos x) (pos y)
signed_mul true false x y = negℤ-*ℤ (pos x) (pos y)
signed_mul true true x y = negℤ-*ℤ (pos x) (neg_ℤ (pos y)) ∙ ap neg_ℤ (*ℤ-negℤ (pos x) (pos y)) ∙ neg_ℤ-neg_ℤ (pos (x * y))

pub signed_times : (s : Bool) (x y : ℕ) → signed s x *ℤ pos y ≡ signed s (x * y)
signed_times false x y = refl
signed_times true x y = negℤ-*ℤ (pos x) (pos y)

-- a sum of two of one sign, and of two of opposite signs
pub signed_add : (s : Bool) (x y : ℕ) → signed s x +ℤ signed s y ≡ signed s (x + y)
signed_add false x y = refl
signed_add true x y = omega (arith, ints)

pub signed_opposite : (s : Bool) (x y : ℕ) → y ≤ x → signed s x +ℤ signed (not s) y ≡ signed s (x - y)
signed_opposite false x y h = omega (arith, ints)
signed_opposite true x y h = omega (arith, ints)

gap : (s : Bool) (x y : ℕ) → nat_abs (signed s x -ℤ signed s y) ≡ (x - y) + (y - x)
gap false x y = omega (arith, ints)
gap true x y = omega (arith, ints)

near-gap : (n x y b : ℕ) → Near n x y b → n * ((y - x) + (x - y)) ≤ b
near-gap n x y b e = omega (arith, mul-sub n x y, mul-sub n y x, e.over, e.under)

pub one_rounding : (n : ℕ) (s : Bool) (exact computed : ℕ) → Relative n computed exact → OneRounding n (signed s exact) (signed s computed)
one_rounding n s x y e =
    record {
      of_exact = rw (gap s x y, nat_abs-signed s x) (near-gap n y x x e.of_right);
      of_computed = rw (gap s x y, nat_abs-signed s y) (near-gap n y x y e.of_left);
    }

pub one_rounding_zero : {n : ℕ} {x y : ℤ} → x ≡ pos 0 → y ≡ pos 0 → OneRounding n x y
one_rounding_zero {n} p q = let z : n * 0 ≤ 0 = omega arith in record { of_exact = rw (p, q) z; of_computed = rw (p, q) z }
