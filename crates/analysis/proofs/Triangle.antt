-- The two triangular factors seen through their entries, and what sums over a row of one of them, or over their product, come to.
-- A sum of products and the sum of their magnitudes are treated alike.
use Rattle.std.proofs.Common.{◌≡◌, ℕ, suc, ◌+◌, ◌-◌, ◌*◌, ◌<◌, ◌≤◌, ℤ, pos, ◌+ℤ◌, ◌*ℤ◌, nat_abs, refl, ap, ◌∙◌, ap₂, mul_comm, zero-mul, arith}
use lib.IntN.{*ℤ_comm, zero-*ℤ}
use Rattle.std.proofs.lemmas.Bool.{cond-true, cond-false, lt-ltb, le-ltb, eq-eqb, ne_eqb, le-leb, lt-leb}
use Rattle.exact.specs.Sum.{sum}
use Rattle.exact.proofs.Sum.{Additive, additiveℕ, additiveℤ, sum_last, sum_same, sum_split, sum-zero, sum-tail}
use Rattle.analysis.specs.Factors.{lower, upper}

module _ (U : ℕ) (M : ℕ → ℕ → ℤ) (i k : ℕ) where
  pub lower-below : k < i → lower U M i k ≡ M i k
  unfolding lower
  lower-below h = cond-true _ _ _ (lt-ltb k i h)

  pub lower_on : k ≡ i → lower U M i k ≡ pos U
  unfolding lower
  lower_on e = cond-false _ _ _ (le-ltb k i (omega arith)) ∙ cond-true _ _ _ (eq-eqb k i e)

  pub lower-above : i < k → lower U M i k ≡ pos 0
  unfolding lower
  lower-above h = cond-false _ _ _ (le-ltb k i (omega arith)) ∙ cond-false _ _ _ (ne_eqb k i (λ e. omega arith))

module _ (M : ℕ → ℕ → ℤ) (k j : ℕ) where
  pub upper-above : k ≤ j → upper M k j ≡ M k j
  unfolding upper
  upper-above h = cond-true _ _ _ (le-leb k j h)

  pub upper-below : j < k → upper M k j ≡ pos 0
  unfolding upper
  upper-below h = cond-false _ _ _ (lt-leb k j h)

-- the terms of a sum: products of two integers, or their magnitudes
pub record Terms {R : Type 0} (z : R) (plus : R → R → R) (times : ℤ → ℤ → R) : Type 0 where
  pub law : Additive z plus
  pub none : (b : ℤ) → times (pos 0) b ≡ z
  pub comm : (a b : ℤ) → times a b ≡ times b a

pub termsℤ : Terms (pos 0) ◌+ℤ◌ ◌*ℤ◌
termsℤ = record { law = additiveℤ; none = zero-*ℤ; comm = *ℤ_comm }

pub termsℕ : Terms 0 ◌+◌ (λ a b. nat_abs a * nat_abs b)
termsℕ = record { law = additiveℕ; none = λ b. zero-mul (nat_abs b); comm = λ a b. mul_comm (nat_abs a) (nat_abs b) }

module _ {R : Type 0} {z : R} {plus : R → R → R} {times : ℤ → ℤ → R} (p : Terms z plus times) (n : ℕ) (M : ℕ → ℕ → ℤ) where
  -- row i of the lower factor against y
  pub sum-lower : (U i : ℕ) (y : ℕ → ℤ) → i < n
      → sum z plus n (λ k. times (lower U M i k) (y k)) ≡ plus (sum z plus i (λ k. times (M i k) (y k))) (times (y i) (pos U))
  sum-lower U i y h =
      let f : ℕ → R = λ k. times (lower U M i k) (y k) in
      let left : (k : ℕ) → k < i → f k ≡ times (M i k) (y k) = λ k under. ap (λ t. times t (y k)) (lower-below U M i k under) in
      let on : f i ≡ times (y i) (pos U) = ap (λ t. times t (y i)) (lower_on U M i i refl) ∙ p.comm (pos U) (y i) in
      let right : (k : ℕ) → i < k → f k ≡ z = λ k over. ap (λ t. times t (y k)) (lower-above U M i k over) ∙ p.none (y k) in
      sum-tail p.law (suc i) n h (λ k over _. right k over) ∙ sum_last z plus i f ∙ ap₂ plus (sum_same z plus i left) on

  -- row i of the upper factor against x
  pub sum-upper : (i : ℕ) (x : ℕ → ℤ) → i < n
      → sum z plus n (λ j. times (upper M i j) (x j))
      ≡ plus (times (M i i) (x i)) (sum z plus (n - suc i) (λ t. times (M i (suc i + t)) (x (suc i + t))))
  sum-upper i x h =
      let f : ℕ → R = λ j. times (upper M i j) (x j) in
      let left : (j : ℕ) → j < i → f j ≡ z = λ j under. ap (λ t. times t (x j)) (upper-below M i j under) ∙ p.none (x j) in
      let right : (j : ℕ) → i ≤ j → f j ≡ times (M i j) (x j) = λ j over. ap (λ t. times t (x j)) (upper-above M i j over) in
      let until : sum z plus (suc i) f ≡ plus z (times (M i i) (x i)) = sum_last z plus i f ∙ ap₂ plus (sum-zero p.law i left) (right i (omega arith)) in
      let first : sum z plus (suc i) f ≡ times (M i i) (x i) = until ∙ p.law.comm z _ ∙ p.law.unit _ in
      let cut : n ≡ suc i + (n - suc i) = omega arith in
      ap (λ t. sum z plus t f) cut ∙ sum_split p.law (suc i) (n - suc i) f
      ∙ ap₂ plus first (sum_same z plus (n - suc i) (λ t _. right (suc i + t) (omega arith)))

  module _ (U i j : ℕ) (h : i < n) where
    -- row i of the lower factor against column j of the upper one, below the diagonal
    pub sum_below : j < i
        → sum z plus n (λ k. times (lower U M i k) (upper M k j)) ≡ plus (sum z plus j (λ k. times (M i k) (M k j))) (times (M i j) (M j j))
    sum_below under =
        let f : ℕ → R = λ k. times (lower U M i k) (upper M k j) in
        let left : (k : ℕ) → k < i → k ≤ j → f k ≡ times (M i k) (M k j) = λ k a b. ap₂ times (lower-below U M i k a) (upper-above M k j b) in
        let right : (k : ℕ) → j < k → f k ≡ z = λ k b. ap (times (lower U M i k)) (upper-below M k j b) ∙ p.comm _ (pos 0) ∙ p.none _ in
        let each : (k : ℕ) → k < j → f k ≡ times (M i k) (M k j) = λ k b. left k (omega arith) (omega arith) in
        sum-tail p.law (suc j) n (omega arith) (λ k b _. right k b) ∙ sum_last z plus j f
        ∙ ap₂ plus (sum_same z plus j each) (left j under (omega arith))

    -- and on the diagonal or right of it
    pub sum-above : i ≤ j
        → sum z plus n (λ k. times (lower U M i k) (upper M k j)) ≡ plus (sum z plus i (λ k. times (M i k) (M k j))) (times (M i j) (pos U))
    sum-above over =
        let column : (k : ℕ) → k ≤ i → upper M k j ≡ M k j = λ k above. upper-above M k j (omega arith) in
        let each : (k : ℕ) → k < i → times (M i k) (upper M k j) ≡ times (M i k) (M k j) = λ k above. ap (times (M i k)) (column k (omega arith)) in
        sum-lower U i (λ k. upper M k j) h ∙ ap₂ plus (sum_same z plus i each) (ap (λ t. times t (pos U)) (column i (omega arith)))
