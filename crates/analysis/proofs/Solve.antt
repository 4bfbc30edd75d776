-- The residual of a row of a linear system, from the errors of its two factors and of the two solves with them.
-- Values are integers in units of 1 / U; l is the row of the first factor and u the second factor, as `lower U M i` and `upper M`.
use Rattle.std.proofs.Common.{◌≡◌, ℕ, suc, ◌+◌, ◌-◌, ◌*◌, ◌<◌, ◌≤◌, ℤ, pos, ◌+ℤ◌, ◌-ℤ◌, ◌*ℤ◌, neg_ℤ, nat_abs, sym, ap, ◌∙◌, le_trans, mul-le-mul_right, mul_assoc, mul_comm, mul-le-mul_left, mul-pos, arith}
use native.Mathlib.Nat.{le_of_mul-le-mul_left}
use lib.IntN.{*ℤ_comm}
use Rattle.std.proofs.lemmas.Int.{ints}
use Rattle.exact.specs.Sum.{sum, sumℕ, sumℤ}
use Rattle.exact.proofs.Sum.{Additive, additiveℕ, additiveℤ, sum_same, sum-add, sum-exchange, sum_mono, *-sumℕ, sumℕ-*, *ℤ-sumℤ, sumℤ-*ℤ, negℤ-sumℤ, nat_abs-sum}
use Rattle.exact.proofs.Integer.{*ℤ-assoc, *ℤ-sub, sub-*ℤ, nat_abs-*ℤ}

-- ---- sums of products

-- (l u) x is l (u x)
module _ {A : Type 0} {z : A} {plus : A → A → A} (law : Additive z plus) (times : A → A → A)
    (assoc : (a b c : A) → times (times a b) c ≡ times a (times b c))
    (left : (c : A) (n : ℕ) (f : ℕ → A) → times c (sum z plus n f) ≡ sum z plus n (λ k. times c (f k)))
    (right : (n : ℕ) (f : ℕ → A) (c : A) → times (sum z plus n f) c ≡ sum z plus n (λ k. times (f k) c)) where
  product-assoc : (n : ℕ) (l : ℕ → A) (u : ℕ → ℕ → A) (x : ℕ → A)
      → sum z plus n (λ j. times (sum z plus n (λ k. times (l k) (u k j))) (x j)) ≡ sum z plus n (λ k. times (l k) (sum z plus n (λ j. times (u k j) (x j))))
  product-assoc n l u x =
      sum_same z plus n (λ j below. right n _ (x j)) ∙ sum-exchange law n n (λ j k. times (times (l k) (u k j)) (x j))
      ∙ sum_same z plus n (λ k below. sum_same z plus n (λ j inside. assoc (l k) (u k j) (x j)) ∙ sym (left (l k) n _))

product-assocℕ : (n : ℕ) (l : ℕ → ℕ) (u : ℕ → ℕ → ℕ) (x : ℕ → ℕ)
    → sumℕ n (λ j. sumℕ n (λ k. l k * u k j) * x j) ≡ sumℕ n (λ k. l k * sumℕ n (λ j. u k j * x j))
product-assocℕ = product-assoc additiveℕ ◌*◌ mul_assoc *-sumℕ sumℕ-*

product-assocℤ : (n : ℕ) (l : ℕ → ℤ) (u : ℕ → ℕ → ℤ) (x : ℕ → ℤ)
    → sumℤ n (λ j. sumℤ n (λ k. l k *ℤ u k j) *ℤ x j) ≡ sumℤ n (λ k. l k *ℤ sumℤ n (λ j. u k j *ℤ x j))
product-assocℤ = product-assoc additiveℤ ◌*ℤ◌ *ℤ-assoc *ℤ-sumℤ sumℤ-*ℤ

sum-sub : (n : ℕ) (f g : ℕ → ℤ) → sumℤ n (λ k. f k -ℤ g k) ≡ sumℤ n f -ℤ sumℤ n g
sum-sub n f g = sum-add additiveℤ n f (λ k. neg_ℤ (g k)) ∙ ap (λ t. sumℤ n f +ℤ t) (sym (negℤ-sumℤ n g))

sum-scale : (n d c : ℕ) (f g : ℕ → ℕ) → ((k : ℕ) → k < n → d * f k ≤ c * g k) → d * sumℕ n f ≤ c * sumℕ n g
sum-scale n d c f g each = rw (*-sumℕ d n f, *-sumℕ c n g) (sum_mono n each)

-- an error times a factor
times_error : (d c : ℕ) (l e : ℤ) (v : ℕ) → d * nat_abs e ≤ c * v → d * nat_abs (l *ℤ e) ≤ c * (nat_abs l * v)
times_error d c l e v h = rw (nat_abs-*ℤ l e) (omega (arith, mul-le-mul_left (nat_abs l) h))

-- Where each f is near g, in units U times larger, so are their sums with the factors l.
module _ (n U : ℕ) (l f g : ℕ → ℤ) where
  spread : sumℤ n (λ k. l k *ℤ (f k *ℤ pos U -ℤ g k)) ≡ sumℤ n (λ k. l k *ℤ f k) *ℤ pos U -ℤ sumℤ n (λ k. l k *ℤ g k)
  spread =
      sum_same (pos 0) ◌+ℤ◌ n (λ k below. *ℤ-sub (l k) _ (g k)) ∙ sum-sub n _ _
      ∙ ap (λ t. t -ℤ sumℤ n (λ k. l k *ℤ g k)) (sum_same (pos 0) ◌+ℤ◌ n (λ k below. sym (*ℤ-assoc (l k) (f k) (pos U))) ∙ sym (sumℤ-*ℤ n _ (pos U)))

  sum_near : (d c : ℕ) (v : ℕ → ℕ) → ((k : ℕ) → k < n → d * nat_abs (f k *ℤ pos U -ℤ g k) ≤ c * v k)
      → d * nat_abs (sumℤ n (λ k. l k *ℤ f k) *ℤ pos U -ℤ sumℤ n (λ k. l k *ℤ g k)) ≤ c * sumℕ n (λ k. nat_abs (l k) * v k)
  sum_near d c v each =
      rw (← spread) (le_trans (mul-le-mul_left d (nat_abs-sum n _)) (sum-scale n d c _ _ (λ k below. times_error d c (l k) _ (v k) (each k below))))

nat_abs-products : (n : ℕ) (f g : ℕ → ℤ) → nat_abs (sumℤ n (λ k. f k *ℤ g k)) ≤ sumℕ n (λ k. nat_abs (f k) * nat_abs (g k))
nat_abs-products n f g = simp nat_abs-*ℤ at (nat_abs-sum n (λ k. f k *ℤ g k))

-- ---- bounds, with d for N - n

value_bound : (d n : ℕ) (y s : ℤ) (V : ℕ) → d * nat_abs (y -ℤ s) ≤ n * V → nat_abs s ≤ V → d * nat_abs y ≤ (d + n) * V
value_bound d n y s V h small =
    let up : nat_abs y ≤ nat_abs (y -ℤ s) + nat_abs s = omega (arith, ints) in
    omega (arith, mul-le-mul_left d up, mul-le-mul_left d small)

scaled_bound : (d c U L Y V : ℕ) → d * (Y * U) ≤ c * V → d * (U * (L * Y)) ≤ c * (L * V)
scaled_bound d c U L Y V h = omega (arith, mul-le-mul_left L h)

nat_abs-scaled : (a b : ℤ) (U : ℕ) → nat_abs (a *ℤ pos U -ℤ b *ℤ pos U) ≡ nat_abs (a -ℤ b) * U
nat_abs-scaled a b U = rw (← sub-*ℤ a b (pos U)) (nat_abs-*ℤ (a -ℤ b) (pos U))

between : (p q r : ℤ) → nat_abs (p -ℤ r) ≤ nat_abs (p -ℤ q) + nat_abs (q -ℤ r)
between p q r = omega (arith, ints)

turned : (p q : ℤ) → nat_abs (p -ℤ q) ≡ nat_abs (q -ℤ p)
turned p q = omega (arith, ints)

-- E is the error of the backward solve, F that of the forward solve, T that of both
two-parts : (d n U W Y E F T : ℕ) → d * E ≤ n * W → d * F ≤ n * Y → d * (U * Y) ≤ (d + n) * W → T ≤ F * U + E
    → d * (d * T) ≤ (2 * (n * d) + n * n) * W
two-parts d n U W Y E F T back front value whole =
    omega (arith, mul-le-mul_left d (mul-le-mul_left d whole), mul-le-mul_left d back, mul-le-mul_left (d * U) front, mul-le-mul_left n value)

-- G is the error of the factors, R that of all three
third_part : (d n W G T R : ℕ) → d * G ≤ n * W → d * (d * T) ≤ (2 * (n * d) + n * n) * W → R ≤ G + T
    → d * (d * R) ≤ (3 * (n * d) + n * n) * W
third_part d n W G T R factors solves whole = omega (arith, mul-le-mul_left d (mul-le-mul_left d whole), mul-le-mul_left d factors)

-- the square of d cancelled, where m + 2 parts have n each and c is what they leave of N
cancelled : (m c n d R W : ℕ) → d ≡ c + suc m * n → 0 < d → d * (d * R) ≤ (suc (suc m) * (n * d) + n * n) * W → c * R ≤ suc (suc m) * n * W
cancelled m c n d R W e some h =
    let less : c * (suc (suc m) * (n * d) + n * n) ≤ d * d * (suc (suc m) * n) = rw e (omega arith) in
    le_of_mul-le-mul_left (omega (arith, mul-le-mul_left c h, mul-le-mul_right W less)) (mul-pos some some)

-- ---- one row

module _ (N n U : ℕ) (l : ℕ → ℤ) (u : ℕ → ℕ → ℤ) (b : ℤ) (x y : ℕ → ℤ)
    (forward : (N - n) * nat_abs (b *ℤ pos U -ℤ sumℤ n (λ k. l k *ℤ y k)) ≤ n * sumℕ n (λ k. nat_abs (l k) * nat_abs (y k)))
    (backward : (k : ℕ) → k < n
    → (N - n) * nat_abs (y k *ℤ pos U -ℤ sumℤ n (λ j. u k j *ℤ x j)) ≤ n * sumℕ n (λ j. nat_abs (u k j) * nat_abs (x j))) where
  abbrev d : ℕ
  d = N - n

  -- u x, and the same with magnitudes
  abbrev s : ℕ → ℤ
  s k = sumℤ n (λ j. u k j *ℤ x j)

  abbrev V : ℕ → ℕ
  V k = sumℕ n (λ j. nat_abs (u k j) * nat_abs (x j))

  abbrev W : ℕ
  W = sumℕ n (λ k. nat_abs (l k) * V k)

  values : (k : ℕ) → k < n → d * (nat_abs (y k) * U) ≤ (d + n) * V k
  values k below = rw nat_abs-*ℤ at (value_bound d n (y k *ℤ pos U) (s k) (V k) (backward k below) (nat_abs-products n (u k) x))

  values-sum : d * (U * sumℕ n (λ k. nat_abs (l k) * nat_abs (y k))) ≤ (d + n) * W
  values-sum = rw (*-sumℕ U) (sum-scale n d (d + n) _ _ (λ k below. scaled_bound d (d + n) U (nat_abs (l k)) (nat_abs (y k)) (V k) (values k below)))

  solves : d * (d * nat_abs (b *ℤ pos U *ℤ pos U -ℤ sumℤ n (λ k. l k *ℤ s k))) ≤ (2 * (n * d) + n * n) * W
  solves =
      let whole = between (b *ℤ pos U *ℤ pos U) (sumℤ n (λ k. l k *ℤ y k) *ℤ pos U) (sumℤ n (λ k. l k *ℤ s k)) in
      two-parts d n U W _ _ _ _ (sum_near n U l y s d n V backward) forward values-sum (rw nat_abs-scaled at whole)

  -- the row of the product of the factors, and its weight
  abbrev p : ℕ → ℤ
  p j = sumℤ n (λ k. l k *ℤ u k j)

  abbrev w : ℕ → ℕ
  w j = sumℕ n (λ k. nat_abs (l k) * nat_abs (u k j))

  product : d * (d * nat_abs (sumℤ n (λ j. p j *ℤ x j) -ℤ b *ℤ pos U *ℤ pos U)) ≤ (2 * (n * d) + n * n) * sumℕ n (λ j. w j * nat_abs (x j))
  product = rw (turned, product-assocℤ n l u x, product-assocℕ n (λ k. nat_abs (l k)) (λ k j. nat_abs (u k j)) (λ j. nat_abs (x j))) solves

  -- the row of the exact product of the factors
  pub again_bound : 2 * n < N
      → (N - 2 * n) * nat_abs (sumℤ n (λ j. sumℤ n (λ k. l k *ℤ u k j) *ℤ x j) -ℤ b *ℤ pos U *ℤ pos U)
      ≤ 2 * n * sumℕ n (λ j. sumℕ n (λ k. nat_abs (l k) * nat_abs (u k j)) * nat_abs (x j))
  again_bound below = cancelled 0 (N - 2 * n) n d _ _ (omega arith) (omega arith) product

  module _ (a : ℕ → ℤ)
      (factors : (j : ℕ) → j < n → (N - n) * nat_abs (a j *ℤ pos U -ℤ sumℤ n (λ k. l k *ℤ u k j)) ≤ n * sumℕ n (λ k. nat_abs (l k) * nat_abs (u k j))) where
    factors_part : d * nat_abs (sumℤ n (λ j. a j *ℤ x j) *ℤ pos U -ℤ sumℤ n (λ j. p j *ℤ x j)) ≤ n * sumℕ n (λ j. w j * nat_abs (x j))
    factors_part =
        let entries = sum_same (pos 0) ◌+ℤ◌ n (λ j below. *ℤ_comm (a j) (x j)) in
        let products = sum_same (pos 0) ◌+ℤ◌ n (λ j below. *ℤ_comm (p j) (x j)) in
        let weights = sum_same 0 ◌+◌ n (λ j below. mul_comm (w j) (nat_abs (x j))) in
        rw (entries, products, weights) (sum_near n U x a p d n w factors)

    -- the row a that was factored
    pub residual_bound : 3 * n < N
        → (N - 3 * n) * (nat_abs (sumℤ n (λ j. a j *ℤ x j) -ℤ b *ℤ pos U) * U)
        ≤ 3 * n * sumℕ n (λ j. sumℕ n (λ k. nat_abs (l k) * nat_abs (u k j)) * nat_abs (x j))
    residual_bound below =
        let whole = between (sumℤ n (λ j. a j *ℤ x j) *ℤ pos U) (sumℤ n (λ j. p j *ℤ x j)) (b *ℤ pos U *ℤ pos U) in
        cancelled 1 (N - 3 * n) n d _ _ (omega arith) (omega arith) (third_part d n _ _ _ _ factors_part product (rw nat_abs-scaled at whole))
