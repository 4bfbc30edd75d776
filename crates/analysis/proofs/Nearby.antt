-- A row whose residual is small is solved exactly by the same values after small changes of its entries.
-- The change at each place is in proportion to the weight there, with the sign that makes up for the residual.
use Rattle.std.proofs.Common.{◌≡◌, ℕ, ◌-◌, ◌*◌, ◌<◌, ◌≤◌, ℤ, pos, negsuc, ◌+ℤ◌, ◌-ℤ◌, ◌*ℤ◌, nat_abs, sym, refl, ap, ◌∙◌, ap₂, inl, inr, zero-le, mul-le-mul_right, eq-zero-or-pos, mul-le-mul_left, mul-pos, mul-zero, zero-mul, mul-one, arith}
use lib.IntN.{*ℤ_comm, +ℤ_idr}
use Rattle.std.proofs.lemmas.Int.{ints}
use Rattle.exact.specs.Sum.{sumℕ, sumℤ}
use Rattle.exact.proofs.Sum.{sum_same, sum-add, additiveℤ, *ℤ-sumℤ, sumℤ-*ℤ, pos-sumℕ}
use Rattle.exact.proofs.Integer.{*ℤ-assoc, +ℤ-*ℤ, nat_abs-*ℤ}
use Rattle.analysis.specs.Nearby.{NearbyRow}

sign : ℤ → ℤ
sign (pos a) = pos 1
sign (negsuc a) = negsuc 0

sign_self : (z : ℤ) → sign z *ℤ z ≡ pos (nat_abs z)
unfolding sign
sign_self (pos a) = omega (arith, ints)
sign_self (negsuc a) = omega (arith, ints)

nat_abs-sign : (z : ℤ) → nat_abs (sign z) ≡ 1
unfolding sign
nat_abs-sign (pos a) = refl
nat_abs-sign (negsuc a) = refl

-- the change of an entry with weight w and value x, where the row falls short by s
change : ℤ → ℕ → ℤ → ℤ
change s w x = s *ℤ (pos w *ℤ sign x)

nat_abs-change : (s : ℤ) (w : ℕ) (x : ℤ) → nat_abs (change s w x) ≡ nat_abs s * w
unfolding change
nat_abs-change s w x = simp (nat_abs-*ℤ, nat_abs-sign, mul-one)

change_times : (s : ℤ) (w : ℕ) (x : ℤ) → change s w x *ℤ x ≡ s *ℤ pos (w * nat_abs x)
unfolding change
change_times s w x = simp (*ℤ-assoc, sign_self)

swapped : (a b c : ℤ) → a *ℤ b *ℤ c ≡ a *ℤ c *ℤ b
swapped a b c = cc (*ℤ-assoc a b c, *ℤ_comm b c, *ℤ-assoc a c b)

times_one : (z : ℤ) → z *ℤ pos 1 ≡ z
times_one z = omega (arith, ints)

back : (p b : ℤ) → p +ℤ (b -ℤ p) ≡ b
back p b = omega (arith, ints)

turned : (p b : ℤ) → nat_abs (b -ℤ p) ≡ nat_abs (p -ℤ b)
turned p b = omega (arith, ints)

same_of_none : (p b : ℤ) → nat_abs (p -ℤ b) ≡ 0 → p ≡ b
same_of_none p b h = omega (arith, ints)

none_of_product : (d r K : ℕ) → 0 < d → 0 < K → d * (r * K) ≤ 0 → r ≡ 0
none_of_product d r K some positive h = omega (arith, mul-le-mul_right r (mul-pos some positive))

-- a bound on the residual r, shared out by the weight w
shared : (d c K w D r : ℕ) → d * (r * K) ≤ c * D → d * (r * w * K) ≤ c * (w * D)
shared d c K w D r h = omega (arith, mul-le-mul_left w h)

module _ (N c K n : ℕ) (a : ℕ → ℤ) (b : ℤ) (w : ℕ → ℕ) (x : ℕ → ℤ) where
  -- the row times the values, and the weights times their magnitudes
  abbrev P : ℤ
  P = sumℤ n (λ j. a j *ℤ x j)

  abbrev D : ℕ
  D = sumℕ n (λ j. w j * nat_abs (x j))

  entries_times : sumℤ n (λ j. a j *ℤ pos D *ℤ x j) ≡ P *ℤ pos D
  entries_times = sum_same (pos 0) ◌+ℤ◌ n (λ j below. swapped (a j) (pos D) (x j)) ∙ sym (sumℤ-*ℤ n _ (pos D))

  changes_times : (s : ℤ) → sumℤ n (λ j. change s (w j) (x j) *ℤ x j) ≡ s *ℤ pos D
  changes_times s =
      sum_same (pos 0) ◌+ℤ◌ n (λ j below. change_times s (w j) (x j)) ∙ sym (*ℤ-sumℤ s n _) ∙ ap (λ t. s *ℤ t) (sym (pos-sumℕ n _))

  changed_times : (s : ℤ) → sumℤ n (λ j. (a j *ℤ pos D +ℤ change s (w j) (x j)) *ℤ x j) ≡ (P +ℤ s) *ℤ pos D
  changed_times s =
      sum_same (pos 0) ◌+ℤ◌ n (λ j below. +ℤ-*ℤ _ _ (x j)) ∙ sum-add additiveℤ n _ _ ∙ ap₂ ◌+ℤ◌ entries_times (changes_times s)
      ∙ sym (+ℤ-*ℤ P s (pos D))

  module _ (h : (N - c) * (nat_abs (P -ℤ b) * K) ≤ c * D) where
    unchanged : c < N → 0 < K → D ≡ 0 → NearbyRow N c K n a b w x
    unchanged below positive none =
        let nothing : (N - c) * (nat_abs (P -ℤ b) * K) ≤ 0 = rw (none, mul-zero c) at h in
        let solved : P ≡ b = same_of_none P b (none_of_product (N - c) (nat_abs (P -ℤ b)) K (omega arith) positive nothing) in
        record {
          den = 1;
          positive = omega arith;
          change = λ j. pos 0;
          small = λ j inside. simp (mul-zero, zero-mul) zero-le;
          exact = simp (times_one, +ℤ_idr) solved;
        }

    changed : 0 < D → NearbyRow N c K n a b w x
    changed some =
        record {
          den = D;
          positive = some;
          change = λ j. change (b -ℤ P) (w j) (x j);
          small = λ j inside. rw (nat_abs-change (b -ℤ P) (w j) (x j), turned P b) (shared (N - c) c K (w j) D (nat_abs (P -ℤ b)) h);
          exact = changed_times (b -ℤ P) ∙ ap (λ t. t *ℤ pos D) (back P b);
        }

pub nearby-row : {N c K n : ℕ} {a : ℕ → ℤ} {b : ℤ} {w : ℕ → ℕ} {x : ℕ → ℤ} → c < N → 0 < K
    → (N - c) * (nat_abs (sumℤ n (λ j. a j *ℤ x j) -ℤ b) * K) ≤ c * sumℕ n (λ j. w j * nat_abs (x j))
    → NearbyRow N c K n a b w x
nearby-row {N} {c} {K} {n} {a} {b} {w} {x} below positive h =
    elim (eq-zero-or-pos (sumℕ n (λ j. w j * nat_abs (x j)))) [
      | inl none ↦ unchanged N c K n a b w x h below positive none
      | inr some ↦ changed N c K n a b w x h some
    ]
