-- Laws of finite sums. A law that holds for any addition takes the zero and the addition first;
-- the others take the laws of the addition first, `additiveℕ` or `additiveℤ`.
use Rattle.std.proofs.Common.{◌≡◌, ℕ, zero, suc, ◌+◌, ◌-◌, ◌*◌, ◌<◌, ◌≤◌, ℤ, pos, ◌+ℤ◌, ◌*ℤ◌, neg_ℤ, nat_abs, sym, refl, ap, ◌∙◌, ap₂, le_refl, add-zero, add_assoc, add-suc, add-mul, add_comm, mul-zero, zero-mul, mul-add, add-one, arith}
use borrow.Author.Differences.{ints}
use lib.IntN.{+ℤ_assoc, +ℤ_comm, +ℤ_idr, neg_ℤ-+ℤ, zero-*ℤ, *ℤ-zero}
use Rattle.exact.specs.Sum.{sum, sumℕ, sumℤ}
use Rattle.exact.proofs.Integer.{*ℤ-+ℤ, +ℤ-*ℤ}

-- ---- any addition

-- A relation that holds of the zeros and is kept by the additions holds of two sums if it holds of their terms.
module _ {A B : Type 0} (z : A) (plus : A → A → A) (z' : B) (plus' : B → B → B) (R : A → B → Type 0)
    (none : R z z') (more : (a b : A) (a' b' : B) → R a a' → R b b' → R (plus a b) (plus' a' b')) where
  pub sum_related : (n : ℕ) (f : ℕ → A) (g : ℕ → B) → ((k : ℕ) → k < n → R (f k) (g k)) → R (sum z plus n f) (sum z' plus' n g)
  unfolding sum
  sum_related zero f g each = none
  sum_related (suc n) f g each = more _ _ _ _ (sum_related n f g (λ k below. each k (omega arith))) (each n (omega arith))

module _ {A : Type 0} (z : A) (plus : A → A → A) where
  pub sum-none : (f : ℕ → A) → sum z plus 0 f ≡ z
  unfolding sum
  sum-none f = refl

  pub sum_last : (n : ℕ) (f : ℕ → A) → sum z plus (suc n) f ≡ plus (sum z plus n f) (f n)
  unfolding sum
  sum_last n f = refl

  -- the same at n + 1, as a loop has it
  pub sum_more : (n : ℕ) (f : ℕ → A) → sum z plus (n + 1) f ≡ plus (sum z plus n f) (f n)
  sum_more n f = rw add-one (sum_last n f)

  pub sum_same : (n : ℕ) {f g : ℕ → A} → ((k : ℕ) → k < n → f k ≡ g k) → sum z plus n f ≡ sum z plus n g
  sum_same n = sum_related z plus z plus ◌≡◌ refl (λ a b a' b'. ap₂ plus) n _ _

  -- a map h that keeps the zero and the addition, into another type or the same
  pub sum-map : {B : Type 0} {z' : B} (plus' : B → B → B) (h : A → B) → h z ≡ z' → ((a b : A) → h (plus a b) ≡ plus' (h a) (h b))
      → (n : ℕ) (f : ℕ → A) → h (sum z plus n f) ≡ sum z' plus' n (λ k. h (f k))
  sum-map {z'} plus' h none more n f =
      sum_related z plus z' plus' (λ a b. h a ≡ b) none (λ a b a' b' p q. more a b ∙ ap₂ plus' p q) n f _ (λ k below. refl)

-- ---- an associative and commutative addition

pub record Additive {A : Type 0} (z : A) (plus : A → A → A) : Type 0 where
  pub assoc : (a b c : A) → plus (plus a b) c ≡ plus a (plus b c)
  pub comm : (a b : A) → plus a b ≡ plus b a
  pub unit : (a : A) → plus a z ≡ a

pub additiveℕ : Additive 0 ◌+◌
additiveℕ = record { assoc = add_assoc; comm = add_comm; unit = add-zero }

pub additiveℤ : Additive (pos 0) ◌+ℤ◌
additiveℤ = record { assoc = +ℤ_assoc; comm = +ℤ_comm; unit = +ℤ_idr }

module _ {A : Type 0} {z : A} {plus : A → A → A} (law : Additive z plus) where
  shuffle : (a b c d : A) → plus (plus a b) (plus c d) ≡ plus (plus a c) (plus b d)
  shuffle a b c d =
      cc (law.assoc a b (plus c d), law.assoc b c d, law.comm b c, law.assoc c b d, law.assoc a c (plus b d))

  pub sum-zero : (n : ℕ) {f : ℕ → A} → ((k : ℕ) → k < n → f k ≡ z) → sum z plus n f ≡ z
  sum-zero n {f} = sum_related z plus z plus (λ a _. a ≡ z) refl (λ a b _ _ p q. ap₂ plus p q ∙ law.unit z) n f f

  pub sum-add : (n : ℕ) (f g : ℕ → A) → sum z plus n (λ k. plus (f k) (g k)) ≡ plus (sum z plus n f) (sum z plus n g)
  unfolding sum
  sum-add zero f g = sym (law.unit z)
  sum-add (suc n) f g = ap (λ t. plus t (plus (f n) (g n))) (sum-add n f g) ∙ shuffle _ _ _ _

  pub sum-exchange : (n m : ℕ) (f : ℕ → ℕ → A)
      → sum z plus n (λ i. sum z plus m (λ j. f i j)) ≡ sum z plus m (λ j. sum z plus n (λ i. f i j))
  unfolding sum
  sum-exchange zero m f = sym (sum-zero m (λ j below. refl))
  sum-exchange (suc n) m f = ap (λ t. plus t (sum z plus m (f n))) (sum-exchange n m f) ∙ sym (sum-add m _ (f n))

  pub sum_front : (n : ℕ) (f : ℕ → A) → sum z plus (suc n) f ≡ plus (f 0) (sum z plus n (λ k. f (suc k)))
  unfolding sum
  sum_front zero f = law.comm z (f 0)
  sum_front (suc n) f = ap (λ t. plus t (f (suc n))) (sum_front n f) ∙ law.assoc _ _ _

  pub sum_split : (m n : ℕ) (f : ℕ → A) → sum z plus (m + n) f ≡ plus (sum z plus m f) (sum z plus n (λ k. f (m + k)))
  unfolding sum
  sum_split m zero f = rw add-zero (sym (law.unit _))
  sum_split m (suc n) f = rw (add-suc m n) (ap (λ t. plus t (f (m + n))) (sum_split m n f) ∙ law.assoc _ _ _)

  -- terms that are zero from m on can be left out
  pub sum-tail : (m n : ℕ) {f : ℕ → A} → m ≤ n → ((k : ℕ) → m ≤ k → k < n → f k ≡ z) → sum z plus n f ≡ sum z plus m f
  sum-tail m n {f} up_to_lem each =
      let cut : n ≡ m + (n - m) = omega arith in
      let rest : sum z plus (n - m) (λ k. f (m + k)) ≡ z = sum-zero (n - m) (λ k below. each (m + k) (omega arith) (omega arith)) in
      ap (λ t. sum z plus t f) cut ∙ sum_split m (n - m) f ∙ ap (plus (sum z plus m f)) rest ∙ law.unit _

-- ---- the naturals and the integers

pub *-sumℕ : (c n : ℕ) (f : ℕ → ℕ) → c * sumℕ n f ≡ sumℕ n (λ k. c * f k)
*-sumℕ c = sum-map 0 ◌+◌ ◌+◌ (λ a. c * a) (mul-zero c) (mul-add c)

pub sumℕ-* : (n : ℕ) (f : ℕ → ℕ) (c : ℕ) → sumℕ n f * c ≡ sumℕ n (λ k. f k * c)
sumℕ-* n f c = sum-map 0 ◌+◌ ◌+◌ (λ a. a * c) (zero-mul c) (λ a b. add-mul a b c) n f

pub *ℤ-sumℤ : (c : ℤ) (n : ℕ) (f : ℕ → ℤ) → c *ℤ sumℤ n f ≡ sumℤ n (λ k. c *ℤ f k)
*ℤ-sumℤ c = sum-map (pos 0) ◌+ℤ◌ ◌+ℤ◌ (λ a. c *ℤ a) (*ℤ-zero c) (*ℤ-+ℤ c)

pub sumℤ-*ℤ : (n : ℕ) (f : ℕ → ℤ) (c : ℤ) → sumℤ n f *ℤ c ≡ sumℤ n (λ k. f k *ℤ c)
sumℤ-*ℤ n f c = sum-map (pos 0) ◌+ℤ◌ ◌+ℤ◌ (λ a. a *ℤ c) (zero-*ℤ c) (λ a b. +ℤ-*ℤ a b c) n f

pub negℤ-sumℤ : (n : ℕ) (f : ℕ → ℤ) → neg_ℤ (sumℤ n f) ≡ sumℤ n (λ k. neg_ℤ (f k))
negℤ-sumℤ = sum-map (pos 0) ◌+ℤ◌ ◌+ℤ◌ neg_ℤ refl neg_ℤ-+ℤ

pub pos-sumℕ : (n : ℕ) (f : ℕ → ℕ) → pos (sumℕ n f) ≡ sumℤ n (λ k. pos (f k))
pos-sumℕ = sum-map 0 ◌+◌ ◌+ℤ◌ pos refl (λ a b. refl)

pub sum_mono : (n : ℕ) {f g : ℕ → ℕ} → ((k : ℕ) → k < n → f k ≤ g k) → sumℕ n f ≤ sumℕ n g
sum_mono n = sum_related 0 ◌+◌ 0 ◌+◌ ◌≤◌ (le_refl 0) (λ a b a' b' p q. omega arith) n _ _

pub nat_abs-sum : (n : ℕ) (f : ℕ → ℤ) → nat_abs (sumℤ n f) ≤ sumℕ n (λ k. nat_abs (f k))
nat_abs-sum n f =
    sum_related (pos 0) ◌+ℤ◌ 0 ◌+◌ (λ a b. nat_abs a ≤ b) (le_refl 0) (λ a b a' b' p q. omega (arith, ints)) n f _
    (λ k below. le_refl _)
