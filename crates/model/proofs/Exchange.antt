-- The exchange of two places, as a function of places; what it does to a list; and orders in which each number below n stands exactly once.
use Rattle.std.proofs.Common.{◌≡◌, ℕ, zero, suc, ◌+◌, ◌<◌, ◌≤◌, cond, eqb, List, [], ◌∷◌, length, get_or, set, refl, ap, ◌∙◌, inl, inr, add-one, arith}
use Rattle.std.proofs.lemmas.List.{length-set, get_or-set_same, get_or-set_other, get_or_append_left, get_or_push, length_push}
use Rattle.std.proofs.lemmas.Bool.{cases_eq, eq-eqb, ne_eqb}
use Rattle.std.proofs.lemmas.Bool.Decides.{nat_tests}
use Rattle.model.specs.Factor.{swapped, up_to}

-- the place from which place t is filled when i and j change places
unfoldable pub exchanged : ℕ → ℕ → ℕ → ℕ
exchanged i j t = cond (eqb t j) i (cond (eqb t i) j t)

pub exchanged_twice : (i j t : ℕ) → exchanged i j (exchanged i j t) ≡ t
unfolding exchanged
exchanged_twice i j t = grind (arith, nat_tests)

pub exchanged-first : (i j : ℕ) → exchanged i j i ≡ j
unfolding exchanged
exchanged-first i j = grind (arith, nat_tests)

pub exchanged-fixed : (i j k t : ℕ) → k ≤ i → k ≤ j → t < k → exchanged i j t ≡ t
unfolding exchanged
exchanged-fixed i j k t p q h = grind (arith, nat_tests)

pub exchanged_from : (i j k t : ℕ) → k ≤ i → k ≤ j → k ≤ t → k ≤ exchanged i j t
unfolding exchanged
exchanged_from i j k t p q h = grind (arith, nat_tests)

pub exchanged-within : (i j n t : ℕ) → i < n → j < n → t < n → exchanged i j t < n
unfolding exchanged
exchanged-within i j n t p q h = grind (arith, nat_tests)

module _ {X : Type 0} (d : X) (i j : ℕ) (xs : List X) where
  pub length-swapped : length (swapped d i j xs) ≡ length xs
  length-swapped = length-set (set xs i (get_or xs j d)) j (get_or xs i d) ∙ length-set xs i (get_or xs j d)

  pub get_or-swapped : (t : ℕ) → i < length xs → j < length xs → get_or (swapped d i j xs) t d ≡ get_or xs (exchanged i j t) d
  unfolding exchanged
  get_or-swapped t hi hj =
      let ys = set xs i (get_or xs j d) in
      elim (cases_eq t j) [
        | inl e ↦ rw (eq-eqb t j e, e) (get_or-set_same ys j (get_or xs i d) d (rw (length-set xs i (get_or xs j d)) hj))
        | inr other ↦ rw (ne_eqb t j other, get_or-set_other ys j t (get_or xs i d) d other)
            (elim (cases_eq t i) [
              | inl e ↦ rw (eq-eqb t i e, e) (get_or-set_same xs i (get_or xs j d) d hi)
              | inr none ↦ rw (ne_eqb t i none) (get_or-set_other xs i t (get_or xs j d) d none)
            ])
      ]

-- ---- orders
-- each number below n is o p for exactly one p below n
pub record Permutes (n : ℕ) (o : ℕ → ℕ) : Type 0 where
  pub inverse : ℕ → ℕ
  pub below : (i : ℕ) → i < n → o i < n
  pub inverse-below : (i : ℕ) → i < n → inverse i < n
  pub there : (i : ℕ) → i < n → o (inverse i) ≡ i
  pub back : (i : ℕ) → i < n → inverse (o i) ≡ i

pub permutes_same : (n : ℕ) (o : ℕ → ℕ) → ((i : ℕ) → i < n → o i ≡ i) → Permutes n o
permutes_same n o same = record {
  inverse = λ i. i;
  below = λ i h. rw (same i h) h;
  inverse-below = λ i h. h;
  there = same;
  back = same;
}

pub permutes_exchanged : (n i j : ℕ) (o o' : ℕ → ℕ) → i < n → j < n → ((t : ℕ) → t < n → o' t ≡ o (exchanged i j t)) → Permutes n o → Permutes n o'
permutes_exchanged n i j o o' hi hj moved p =
    let σ = exchanged i j in
    let within : (t : ℕ) → t < n → σ t < n = λ t h. exchanged-within i j n t hi hj h in
    record {
      inverse = λ t. σ (p.inverse t);
      below = λ t h. rw (moved t h) (p.below (σ t) (within t h));
      inverse-below = λ t h. within (p.inverse t) (p.inverse-below t h);
      there = λ t h.
          moved (σ (p.inverse t)) (within (p.inverse t) (p.inverse-below t h)) ∙ ap o (exchanged_twice i j (p.inverse t)) ∙ p.there t h;
      back = λ t h. ap (λ z. σ (p.inverse z)) (moved t h) ∙ ap σ (p.back (σ t) (within t h)) ∙ exchanged_twice i j t;
    }

pub length-up_to : (n : ℕ) → length (up_to n) ≡ n
unfolding up_to
length-up_to zero = refl
length-up_to (suc n) = length_push (up_to n) n ∙ ap (λ k. k + 1) (length-up_to n) ∙ add-one n

pub get_or-up_to : (n i d : ℕ) → i < n → get_or (up_to n) i d ≡ i
unfolding up_to
get_or-up_to zero i d h = absurd (omega arith)
get_or-up_to (suc n) i d h = elim (cases_eq i n) [
  | inl e ↦ rw e (get_or_push (up_to n) n d n (length-up_to n))
  | inr other ↦ (
      let less : i < n = omega arith in
      get_or_append_left (up_to n) (n ∷ []) d i (rw (length-up_to n) less) ∙ get_or-up_to n i d less)
]
