-- The error of a value from which products are subtracted one by one, each with two roundings, in integers.
-- C is what it started from, P the exact sum of the products, W the sum of their magnitudes, S the value after t products.
use Rattle.std.proofs.Common.{◌≡◌, ℕ, suc, ◌+◌, ◌-◌, ◌*◌, ◌<◌, ◌≤◌, ℤ, pos, ◌+ℤ◌, ◌-ℤ◌, ◌*ℤ◌, nat_abs, ap, ◌∙◌, zero-le, le_trans, add-zero, mul-le-mul_right, mul-le-mul_left, mul-zero, arith}
use lib.IntN.{+ℤ_idr}
use Rattle.std.proofs.lemmas.Int.{ints}
use Rattle.analysis.specs.Residual.{ResidualStep}
use Rattle.exact.proofs.Integer.{nat_abs-*ℤ, sub-*ℤ}

pub record Close (N t : ℕ) (C P : ℤ) (W : ℕ) (S : ℤ) : Type 0 where
  pub near : (N - t) * nat_abs (C -ℤ P -ℤ S) ≤ t * (W + nat_abs S)

pub close_start : (N : ℕ) (C : ℤ) → Close N 0 C (pos 0) 0 C
close_start N C = let none : nat_abs (C -ℤ pos 0 -ℤ C) ≡ 0 = omega (arith, ints) in record { near = rw (none, mul-zero (N - 0)) zero-le }

-- a larger count says less
pub close_weaken : {N t : ℕ} {C P : ℤ} {W : ℕ} {S : ℤ} (u : ℕ) → t ≤ u → Close N t C P W S → Close N u C P W S
close_weaken {N} {t} {C} {P} {W} {S} u h c =
    let E = nat_abs (C -ℤ P -ℤ S) in
    let fewer : (N - u) * E ≤ (N - t) * E = mul-le-mul_right E (omega arith) in
    record { near = le_trans fewer (le_trans c.near (mul-le-mul_right (W + nat_abs S) h)) }

-- N is suc d + t, E the error before, e that of the step, Q the product's magnitude, V the value's before and V' after
step_bound : (d t E e W Q V V' : ℕ) → suc d * E ≤ t * (W + V) → (suc d + t) * e ≤ Q + V' → V ≤ V' + Q + e → d * (E + e) ≤ (t + 1) * (W + Q + V')
step_bound d t E e W Q V V' near step up = omega (arith, mul-le-mul_left t up)

joined : (C P Q S S' : ℤ) → (C -ℤ P -ℤ S) +ℤ (S -ℤ Q -ℤ S') ≡ C -ℤ (P +ℤ Q) -ℤ S'
joined C P Q S S' = omega (arith, ints)

nat_abs-+ℤ : (a b : ℤ) → nat_abs (a +ℤ b) ≤ nat_abs a + nat_abs b
nat_abs-+ℤ a b = omega (arith, ints)

-- one product more
pub close-step : {N t : ℕ} {C P : ℤ} {W : ℕ} {S : ℤ} (Q S' : ℤ) → t < N → Close N t C P W S → N * nat_abs (S -ℤ Q -ℤ S') ≤ nat_abs Q + nat_abs S'
    → Close N (t + 1) C (P +ℤ Q) (W + nat_abs Q) S'
close-step {N} {t} {C} {P} {W} {S} Q S' h c step =
    let d = N - (t + 1) in
    let whole : suc d + t ≡ N = omega arith in
    let above : suc d ≡ N - t = omega arith in
    let E = nat_abs (C -ℤ P -ℤ S) in
    let e = nat_abs (S -ℤ Q -ℤ S') in
    let before : suc d * E ≤ t * (W + nat_abs S) = rw above c.near in
    let one : (suc d + t) * e ≤ nat_abs Q + nat_abs S' = rw whole step in
    let value : nat_abs S ≤ nat_abs S' + nat_abs Q + e = omega (arith, ints) in
    let error : nat_abs (C -ℤ (P +ℤ Q) -ℤ S') ≤ E + e = rw (joined C P Q S S') at (nat_abs-+ℤ (C -ℤ P -ℤ S) (S -ℤ Q -ℤ S')) in
    record { near = le_trans (mul-le-mul_left d error) (step_bound d t E e W (nat_abs Q) (nat_abs S) (nat_abs S') before one value) }

-- a division, which subtracts no product
pub close-divided : {N t : ℕ} {C P : ℤ} {W : ℕ} {S : ℤ} (D : ℤ) → t < N → Close N t C P W S → N * nat_abs (S -ℤ D) ≤ nat_abs D → Close N (t + 1) C P W D
close-divided {W = W} {S = S} D few c step =
    let none : nat_abs (S -ℤ pos 0 -ℤ D) ≡ nat_abs (S -ℤ D) = ap (λ t. nat_abs (t -ℤ D)) (+ℤ_idr S) in
    rw (+ℤ_idr, add-zero W) at (close-step (pos 0) D few c (rw none (omega arith)))

pub residual_step : ResidualStep
residual_step N t C P S Q S' W below before step =
    let c : Close N t C P W S = record { near = before } in
    (close-step Q S' below c step).near

-- ---- one product subtracted, from the errors of its two roundings: q is the product p rounded, beside values times U, and s' is s - q rounded
pub scaled_error : (N U : ℕ) (z w : ℤ) → N * nat_abs z ≤ nat_abs w → N * nat_abs (z *ℤ pos U) ≤ nat_abs (w *ℤ pos U)
scaled_error N U z w h = rw (nat_abs-*ℤ z (pos U), nat_abs-*ℤ w (pos U)) (omega (arith, mul-le-mul_right U h))

parts : (s p q s' : ℤ) → s -ℤ p -ℤ s' ≡ (s -ℤ q -ℤ s') +ℤ (q -ℤ p)
parts s p q s' = omega (arith, ints)

turned : (a b : ℤ) → nat_abs (a -ℤ b) ≡ nat_abs (b -ℤ a)
turned a b = omega (arith, ints)

pub product-step : (N U : ℕ) (s p q s' : ℤ) → N * nat_abs (p -ℤ q *ℤ pos U) ≤ nat_abs p → N * nat_abs (s -ℤ q -ℤ s') ≤ nat_abs s'
    → N * nat_abs (s *ℤ pos U -ℤ p -ℤ s' *ℤ pos U) ≤ nat_abs p + nat_abs (s' *ℤ pos U)
product-step N U s p q s' product difference =
    let S = s *ℤ pos U in
    let q' = q *ℤ pos U in
    let S' = s' *ℤ pos U in
    let each : (s -ℤ q -ℤ s') *ℤ pos U ≡ S -ℤ q' -ℤ S' = sub-*ℤ (s -ℤ q) s' (pos U) ∙ ap (λ z. z -ℤ S') (sub-*ℤ s q (pos U)) in
    let d : N * nat_abs (S -ℤ q' -ℤ S') ≤ nat_abs S' = rw each at (scaled_error N U (s -ℤ q -ℤ s') s' difference) in
    let r : N * nat_abs (q' -ℤ p) ≤ nat_abs p = rw (turned q' p) product in
    let error : nat_abs (S -ℤ p -ℤ S') ≤ nat_abs (S -ℤ q' -ℤ S') + nat_abs (q' -ℤ p) = rw (parts S p q' S') (nat_abs-+ℤ (S -ℤ q' -ℤ S') (q' -ℤ p)) in
    omega (arith, mul-le-mul_left N error)
