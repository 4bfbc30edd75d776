-- The factors that elimination ends with: their product is near the given matrix, its rows in the order of the exchanges.
use Rattle.std.proofs.Common.{◌≡◌, ℕ, ◌+◌, ◌-◌, ◌*◌, ◌<◌, ◌≤◌, ℤ, pos, ◌+ℤ◌, ◌-ℤ◌, ◌*ℤ◌, nat_abs, inl, inr, arith}
use Rattle.std.proofs.lemmas.Int.{ints}
use Rattle.std.proofs.lemmas.Bool.{cases_lt}
use Rattle.exact.specs.Sum.{sumℤ}
use Rattle.exact.proofs.Integer.{nat_abs-*ℤ}
use Rattle.analysis.specs.Factors.{lower, upper, weight}
use Rattle.analysis.proofs.Residual.{Close, close_weaken}
use Rattle.analysis.proofs.Elimination.{Eliminated}
use Rattle.analysis.proofs.Triangle.{termsℤ, termsℕ, sum_below, sum-above}

regroup : (C P S : ℤ) → C -ℤ (P +ℤ S) ≡ C -ℤ P -ℤ S
regroup C P S = omega (arith, ints)

-- where the value that is left is a product, it is one more term of the sum T and of its weight V
pub near-sum : {N t : ℕ} (n : ℕ) {C P : ℤ} {W : ℕ} (a b : ℤ) {T : ℤ} {V : ℕ} → t ≤ n → Close N t C P W (a *ℤ b) → T ≡ P +ℤ a *ℤ b
    → V ≡ W + nat_abs a * nat_abs b → (N - n) * nat_abs (C -ℤ T) ≤ n * V
near-sum n {C} {P} a b few c total weights =
    rw (total, weights, regroup C P (a *ℤ b), ← nat_abs-*ℤ a b) (close_weaken n few c).near

pub factors-near : {N n U : ℕ} {A M : ℕ → ℕ → ℤ} {o : ℕ → ℕ} → Eliminated N n U A n M o → (i j : ℕ) → i < n → j < n
    → (N - n) * nat_abs (A (o i) j *ℤ pos U -ℤ sumℤ n (λ k. lower U M i k *ℤ upper M k j)) ≤ n * weight U n M i j
factors-near {n} {U} {M} e i j hi hj = elim (cases_lt j i) [
  | inl under ↦ (
      let total = sum_below termsℤ n M U i j hi under in
      near-sum n (M i j) (M j j) hj (e.below i j hi under hj) total (sum_below termsℕ n M U i j hi under))
  | inr over ↦ (
      let total = sum-above termsℤ n M U i j hi over in
      near-sum n (M i j) (pos U) (omega arith) (e.above i j hj over hi) total (sum-above termsℕ n M U i j hi over))
]
