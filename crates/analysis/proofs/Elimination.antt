-- The error of elimination with row exchanges, column by column, over matrices of integers as functions of a row and a column.
-- Only indices below n are spoken of; a row is exchanged whole, with the factors that stand in it.
use Rattle.std.proofs.Common.{◌≡◌, ℕ, suc, ◌+◌, ◌*◌, ◌<◌, ◌≤◌, ℤ, pos, ◌+ℤ◌, ◌-ℤ◌, ◌*ℤ◌, nat_abs, refl, ap, ◌∙◌, ap₂, inl, inr, add-one, arith}
use Rattle.std.proofs.lemmas.Bool.{cases_lt}
use Rattle.exact.specs.Sum.{sumℕ, sumℤ}
use Rattle.exact.proofs.Integer.{nat_abs-*ℤ}
use Rattle.exact.proofs.Sum.{sum-none, sum_last, sum_same}
use Rattle.analysis.proofs.Residual.{Close, close_start, close-step, close-divided}

-- the products M i t * M t j summed over t < q, and their magnitudes
abbrev pub products : (ℕ → ℕ → ℤ) → ℕ → ℕ → ℕ → ℤ
products M i j q = sumℤ q (λ t. M i t *ℤ M t j)

abbrev pub magnitudes : (ℕ → ℕ → ℤ) → ℕ → ℕ → ℕ → ℕ
magnitudes M i j q = sumℕ q (λ t. nat_abs (M i t) * nat_abs (M t j))

-- C is near S and the first q products at row i and column j, after r steps
abbrev pub Entry : ℕ → ℕ → ℤ → (ℕ → ℕ → ℤ) → ℕ → ℕ → ℕ → ℤ → Type 0
Entry N r C M i j q S = Close N r C (products M i j q) (magnitudes M i j q) S

module _ (M : ℕ → ℕ → ℤ) (i j q : ℕ) {N : ℕ} {C S : ℤ} (S' : ℤ) (few : q < N) (c : Entry N q C M i j q S) where
  -- one product more
  entry_more : N * nat_abs (S -ℤ M i q *ℤ M q j -ℤ S') ≤ nat_abs (M i q *ℤ M q j) + nat_abs S' → Entry N (suc q) C M i j (suc q) S'
  entry_more step =
      let more = close-step (M i q *ℤ M q j) S' few c step in
      rw (sum_last (pos 0) ◌+ℤ◌ q, sum_last 0 ◌+◌ q, ← nat_abs-*ℤ (M i q) (M q j), ← add-one q) more

  -- a division, which takes no product off
  entry-divided : N * nat_abs (S -ℤ S') ≤ nat_abs S' → Entry N (suc q) C M i j q S'
  entry-divided step = rw add-one at (close-divided S' few c step)

-- another matrix, with the same entries where the products are
entry-moved : (M M' : ℕ → ℕ → ℤ) (i i' j q : ℕ) {N r : ℕ} {C S S' : ℤ} → ((t : ℕ) → t < q → M' i' t ≡ M i t)
    → ((t : ℕ) → t < q → M' t j ≡ M t j) → S' ≡ S → Entry N r C M i j q S → Entry N r C M' i' j q S'
entry-moved M M' i i' j q row column value c =
    let size : ℤ → ℤ → ℕ = λ a b. nat_abs a * nat_abs b in
    let p : products M' i' j q ≡ products M i j q = sum_same (pos 0) ◌+ℤ◌ q (λ t h. ap₂ ◌*ℤ◌ (row t h) (column t h)) in
    let w : magnitudes M' i' j q ≡ magnitudes M i j q = sum_same 0 ◌+◌ q (λ t h. ap₂ size (row t h) (column t h)) in
    rw (p, w, value) c

-- k columns are done. A is the given matrix, M the rows as they stand, o the given row that stands in each place;
-- 1 / N bounds the error of one rounding, and U is the number 1.
pub record Eliminated (N n U : ℕ) (A : ℕ → ℕ → ℤ) (k : ℕ) (M : ℕ → ℕ → ℤ) (o : ℕ → ℕ) : Type 0 where
  -- below the diagonal, in a column that is done
  pub below : (i j : ℕ) → i < n → j < i → j < k → Entry N (suc j) (A (o i) j *ℤ pos U) M i j j (M i j *ℤ M j j)
  -- on the diagonal or right of it, in a row that is done
  pub above : (i j : ℕ) → j < n → i ≤ j → i < k → Entry N i (A (o i) j *ℤ pos U) M i j i (M i j *ℤ pos U)
  -- what is left
  pub rest : (i j : ℕ) → i < n → j < n → k ≤ i → k ≤ j → Entry N k (A (o i) j *ℤ pos U) M i j k (M i j *ℤ pos U)

pub eliminated_start : (N n U : ℕ) (A M : ℕ → ℕ → ℤ) (o : ℕ → ℕ) → ((i j : ℕ) → i < n → j < n → M i j ≡ A i j)
    → ((i : ℕ) → i < n → o i ≡ i) → Eliminated N n U A 0 M o
eliminated_start N n U A M o same order = record {
  below = λ i j _ _ none. absurd (omega arith);
  above = λ i j _ _ none. absurd (omega arith);
  rest = λ i j hi hj _ _. rw (order i hi, same i j hi hj, sum-none (pos 0), sum-none {A = ℕ} 0) (close_start N (A i j *ℤ pos U));
}

-- the rows from k on change places: the row that comes to place i stood in place σ i
pub record Swapped (n k : ℕ) (σ : ℕ → ℕ) (M M' : ℕ → ℕ → ℤ) (o o' : ℕ → ℕ) : Type 0 where
  pub fixed : (i : ℕ) → i < k → σ i ≡ i
  pub from : (i : ℕ) → i < n → k ≤ i → k ≤ σ i
  pub within : (i : ℕ) → i < n → k ≤ i → σ i < n
  pub rows : (i j : ℕ) → i < n → j < n → M' i j ≡ M (σ i) j
  pub order : (i : ℕ) → i < n → o' i ≡ o (σ i)

module _ {N n U : ℕ} {A : ℕ → ℕ → ℤ} {k : ℕ} {σ : ℕ → ℕ} {M M' : ℕ → ℕ → ℤ} {o o' : ℕ → ℕ}
    (x : Swapped n k σ M M' o o') (e : Eliminated N n U A k M o) where
  untouched : (i j : ℕ) → i < n → j < n → i < k → M' i j ≡ M i j
  untouched i j hi hj h = x.rows i j hi hj ∙ ap (λ t. M t j) (x.fixed i h)

  place : (i j : ℕ) → i < n → j < i → j < k → (σ i < n) × (j < σ i)
  place i j hi h done = elim (cases_lt i k) [
    | inl early ↦ rw (x.fixed i early) (hi, h)
    | inr late ↦ (x.within i hi late, omega (arith, x.from i hi late))
  ]

  moved : (i j q : ℕ) {r : ℕ} {S S' : ℤ} → i < n → j < n → q ≤ j → q ≤ k → S' ≡ S
      → Entry N r (A (o (σ i)) j *ℤ pos U) M (σ i) j q S → Entry N r (A (o' i) j *ℤ pos U) M' i j q S'
  moved i j q hi hj left done value c =
      let row : (t : ℕ) → t < q → M' i t ≡ M (σ i) t = λ t h. x.rows i t hi (omega arith) in
      let column : (t : ℕ) → t < q → M' t j ≡ M t j = λ t h. untouched t j (omega arith) hj (omega arith) in
      rw (x.order i hi) (entry-moved M M' (σ i) i j q row column value c)

  pub eliminated-swap : Eliminated N n U A k M' o'
  eliminated-swap = record {
    below = λ i j hi h done.
        let hj : j < n = omega arith in
        let p = place i j hi h done in
        let value : M' i j *ℤ M' j j ≡ M (σ i) j *ℤ M j j = ap₂ ◌*ℤ◌ (x.rows i j hi hj) (untouched j j hj hj done) in
        moved i j j hi hj (omega arith) (omega arith) value (e.below (σ i) j p.0 p.1 done);
    above = λ i j hj h done.
        let hi : i < n = omega arith in
        moved i j i hi hj h (omega arith) (ap (λ t. t *ℤ pos U) (x.rows i j hi hj)) (rw (x.fixed i done) (e.above i j hj h done));
    rest = λ i j hi hj hk h.
        moved i j k hi hj h (omega arith) (ap (λ t. t *ℤ pos U) (x.rows i j hi hj)) (e.rest (σ i) j (x.within i hi hk) hj (x.from i hi hk) h);
  }

-- column k is cleared below the diagonal, where its factors come to stand; the rows below are changed right of it
pub record Cleared (N n U k : ℕ) (M M' : ℕ → ℕ → ℤ) : Type 0 where
  pub rows : (i j : ℕ) → i < n → j < n → i ≤ k → M' i j ≡ M i j
  pub columns : (i j : ℕ) → i < n → k < i → j < k → M' i j ≡ M i j
  pub factor : (i : ℕ) → i < n → k < i → N * nat_abs (M i k *ℤ pos U -ℤ M' i k *ℤ M k k) ≤ nat_abs (M' i k *ℤ M k k)
  pub entry : (i j : ℕ) → i < n → j < n → k < i → k < j
      → N * nat_abs (M i j *ℤ pos U -ℤ M' i k *ℤ M k j -ℤ M' i j *ℤ pos U) ≤ nat_abs (M' i k *ℤ M k j) + nat_abs (M' i j *ℤ pos U)

module _ {N n U : ℕ} {A : ℕ → ℕ → ℤ} {k : ℕ} {M M' : ℕ → ℕ → ℤ} {o : ℕ → ℕ}
    (x : Cleared N n U k M M') (few : k < N) (e : Eliminated N n U A k M o) where
  done_column : (i j : ℕ) → i < n → j < n → j < k → M' i j ≡ M i j
  done_column i j hi hj h = elim (cases_lt k i) [ inl under ↦ x.columns i j hi under h | inr done ↦ x.rows i j hi hj done ]

  kept : (i j q : ℕ) {r : ℕ} {C S S' : ℤ} → i < n → j < n → q ≤ j → q ≤ k → S' ≡ S → Entry N r C M i j q S → Entry N r C M' i j q S'
  kept i j q hi hj left done =
      let row : (t : ℕ) → t < q → M' i t ≡ M i t = λ t h. done_column i t hi (omega arith) (omega arith) in
      let column : (t : ℕ) → t < q → M' t j ≡ M t j = λ t h. x.rows t j (omega arith) hj (omega arith) in
      entry-moved M M' i i j q row column

  open_entry : (i j : ℕ) → i < n → j < n → k ≤ i → k ≤ j → Entry N k (A (o i) j *ℤ pos U) M' i j k (M i j *ℤ pos U)
  open_entry i j hi hj hk h = kept i j k hi hj h (omega arith) refl (e.rest i j hi hj hk h)

  pub eliminated-step : Eliminated N n U A (suc k) M' o
  eliminated-step = record {
    below = λ i j hi h done.
        let hj : j < n = omega arith in
        elim (cases_lt j k) [
          | inl early ↦ (
              let value : M' i j *ℤ M' j j ≡ M i j *ℤ M j j = ap₂ ◌*ℤ◌ (done_column i j hi hj early) (done_column j j hj hj early) in
              kept i j j hi hj (omega arith) (omega arith) value (e.below i j hi h early))
          | inr late ↦ (
              let here : j ≡ k = omega arith in
              let hk : k < n = omega arith in
              let under : k < i = omega arith in
              let step = rw (← x.rows k k hk hk (omega arith)) at (x.factor i hi under) in
              rw here (entry-divided M' i k k _ few (open_entry i k hi hk (omega arith) (omega arith)) step))
        ];
    above = λ i j hj h done.
        let hi : i < n = omega arith in
        let value : M' i j *ℤ pos U ≡ M i j *ℤ pos U = ap (λ t. t *ℤ pos U) (x.rows i j hi hj (omega arith)) in
        elim (cases_lt i k) [
          | inl early ↦ kept i j i hi hj h (omega arith) value (e.above i j hj h early)
          | inr late ↦ (
              let here : k ≡ i = omega arith in
              kept i j i hi hj h (omega arith) value (rw here at (e.rest i j hi hj late (omega arith))))
        ];
    rest = λ i j hi hj hk h.
        let step = rw (← x.rows k j (omega arith) hj (omega arith)) at (x.entry i j hi hj hk h) in
        entry_more M' i j k _ few (open_entry i j hi hj (omega arith) (omega arith)) step;
  }
