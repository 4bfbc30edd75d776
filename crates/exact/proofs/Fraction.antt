-- Fractions that are whole numbers of units of 1 / U: sums, differences, products and quotients of two, and what is near those.
use Rattle.std.proofs.Common.{◌≡◌, ℕ, ◌+◌, ◌-◌, ◌*◌, ◌<◌, ◌≤◌, sym, ap, ◌∙◌, subst, ap₂, mul-le-mul_right, mul_comm, mul-pos, le_of_mul-le-mul_right, arith}
use native.Mathlib.Nat.{mul-sub}
use Rattle.exact.proofs.Near.{Relative, relative_scale, relative_cancel}

-- the fraction a / c is A units
pub record InUnits (U a c A : ℕ) : Type 0 where
  pub divisor : 0 < c
  pub whole : A * c ≡ a * U

-- a whole number R near a fraction, times its divisor, is near the number of its units
pub near-units : {U a c A N R : ℕ} → InUnits U a c A → Relative N (R * c) (a * U) → Relative N R A
near-units {c = c} {N = N} {R = R} p r =
    relative_cancel c p.divisor (subst (λ y. Relative N (R * c) y) (sym p.whole) r)

-- ---- two fractions with one divisor
module _ {U a b c A B : ℕ} (p : InUnits U a c A) (q : InUnits U b c B) where
  pub sum-units : InUnits U (a + b) c (A + B)
  sum-units = record { divisor = p.divisor; whole = omega (arith, p.whole, q.whole) }

  pub difference-units : InUnits U (a - b) c (A - B)
  difference-units =
      record {
        divisor = p.divisor;
        whole =
            mul_comm (A - B) c
            ∙ mul-sub c A B
            ∙ ap₂ ◌-◌ (mul_comm c A ∙ p.whole ∙ mul_comm a U) (mul_comm c B ∙ q.whole ∙ mul_comm b U)
            ∙ sym (mul-sub U a b)
            ∙ mul_comm U (a - b);
      }

  pub units-le : a ≤ b → A ≤ B
  units-le h =
      let k : A * c ≤ B * c = rw (p.whole, q.whole) (mul-le-mul_right U h) in
      le_of_mul-le-mul_right k p.divisor

  pub fraction_le : 0 < U → A ≤ B → a ≤ b
  fraction_le h l =
      let k : a * U ≤ b * U = rw (← p.whole, ← q.whole) (mul-le-mul_right c l) in
      le_of_mul-le-mul_right k h

-- ---- any two fractions
module _ {U a c A b d B : ℕ} (p : InUnits U a c A) (q : InUnits U b d B) where
  -- brought to one divisor
  pub left-units : InUnits U (a * d) (c * d) A
  left-units =
      let h : A * c * d ≡ a * U * d = ap (λ x. x * d) p.whole in
      record { divisor = mul-pos p.divisor q.divisor; whole = omega arith }

  pub right-units : InUnits U (b * c) (c * d) B
  right-units =
      let h : B * d * c ≡ b * U * c = ap (λ x. x * c) q.whole in
      record { divisor = mul-pos p.divisor q.divisor; whole = omega arith }

  pub near-product : {N : ℕ} (R : ℕ) → Relative N (R * (c * d)) (a * b * U) → Relative N (R * U) (A * B)
  near-product {N} R r =
      let l : R * (c * d) * U ≡ R * U * (c * d) = omega arith in
      let h : A * c * (B * d) ≡ a * U * (b * U) = ap₂ ◌*◌ p.whole q.whole in
      let x : a * b * U * U ≡ A * B * (c * d) = omega arith in
      relative_cancel (c * d) left-units.divisor
      (subst (λ y. Relative N y (A * B * (c * d))) l (subst (λ y. Relative N (R * (c * d) * U) y) x (relative_scale U r)))

  pub near-quotient : {N : ℕ} (R : ℕ) → Relative N (R * (b * c)) (a * d * U) → Relative N (R * B) (A * U)
  near-quotient {N} R r =
      let g : R * (B * (c * d)) ≡ R * (b * c * U) = ap (λ x. R * x) right-units.whole in
      let l : R * (b * c) * U ≡ R * B * (c * d) = omega arith in
      let h : A * (c * d) * U ≡ a * d * U * U = ap (λ x. x * U) left-units.whole in
      let x : a * d * U * U ≡ A * U * (c * d) = omega arith in
      relative_cancel (c * d) left-units.divisor
      (subst (λ y. Relative N y (A * U * (c * d))) l (subst (λ y. Relative N (R * (b * c) * U) y) x (relative_scale U r)))
