-- An order of n rows in which each row stands in exactly one place passes the test `once_each`.
use Rattle.std.proofs.Common.{◌≡◌, ℕ, zero, suc, ◌<◌, true, false, cond, T, eqb, ltb, List, [], ◌∷◌, length, get_or, sym, refl, ap, ◌∙◌, inl, inr, arith}
use Rattle.std.proofs.lemmas.Bool.{false≢true, cases_eq, cases_lt, cases_Bool, cond-true, cond-false, eq-eqb, ne_eqb, eqb-true, lt-ltb, or_cases}
use Rattle.element.specs.Matrix.{Row}
use Rattle.model.specs.Calls.{among, once_each}
use Rattle.model.specs.Promises.{place, PivotsBounded}

-- Where each number below n stands in one of n places, no other number stands in them.
all-below : (n : ℕ) (o : ℕ → ℕ) → ((i : ℕ) → i < n → (p : ℕ) × (p < n) × (o p ≡ i)) → (q : ℕ) → q < n → o q < n
all-below zero o each q h = absurd (omega arith)
all-below (suc n) o each q h =
    let (p, within, top) = each n (omega arith) in
    -- the last place's number put in the place of n
    let less : ℕ → ℕ = λ k. cond (eqb k p) (o n) (o k) in
    let at_p : less p ≡ o n = cond-true (eqb p p) _ _ (eq-eqb p p refl) in
    let elsewhere : (k : ℕ) → (k ≡ p → ⊥) → less k ≡ o k = λ k ne. cond-false (eqb k p) _ _ (ne_eqb k p ne) in
    let fewer : (i : ℕ) → i < n → (k : ℕ) × (k < n) × (less k ≡ i) = λ i below.
    (let (k, inside, is) = each i (omega arith) in
    elim (cases_eq k n) [
      | inl e ↦ (p, grind arith, at_p ∙ ap o (sym e) ∙ is)
      | inr ne ↦ (k, omega arith, elsewhere k (λ e. grind arith) ∙ is)
    ]) in
    let rest : (k : ℕ) → k < n → less k < n = all-below n less fewer in
    elim (cases_eq q p) [
      | inl e ↦ grind arith
      | inr ne ↦ elim (cases_lt q n) [
        | inl early ↦ omega (arith, rest q early, elsewhere q ne)
        | inr late ↦ (let last : q ≡ n = omega arith in omega (arith, rest p (omega arith), at_p, ap o last))
      ]
    ]

-- ---- the test, by place
among-place : (i : ℕ) (o : List ℕ) → among i o ≡ true → (q : ℕ) × (q < length o) × (get_or o q 0 ≡ i)
unfolding among
among-place i [] t = absurd (false≢true t)
among-place i (j ∷ o) t = elim (or_cases (eqb i j) (among i o) t) [
  | inl e ↦ (0, omega arith, sym (eqb-true i j e))
  | inr e ↦ (let (q, below, is) = among-place i o e in (suc q, omega arith, is))
]

once-each : (n : ℕ) (o : List ℕ) → ((q : ℕ) → q < length o → get_or o q 0 < n)
    → ((p q : ℕ) → p < length o → q < length o → get_or o p 0 ≡ get_or o q 0 → p ≡ q) → T (once_each n o)
unfolding once_each
once-each n [] below distinct = tt
once-each n (i ∷ o) below distinct =
    let alone : among i o ≡ false = elim (cases_Bool (among i o)) [
      | inl e ↦ absurd (let (q, inside, is) = among-place i o e in let same = distinct 0 (suc q) (omega arith) (omega arith) (sym is) in omega arith)
      | inr e ↦ e
    ] in
    let rest = once-each n o (λ q h. below (suc q) (omega arith)) (λ p q h k e. let same = distinct (suc p) (suc q) (omega arith) (omega arith) e in omega arith) in
    let first : ltb i n ≡ true = lt-ltb i n (below 0 (omega arith)) in
    rw (first, alone) rest

pub order-once : (n : ℕ) (lu : Row) (order : List ℕ) → length order ≡ n → PivotsBounded n lu order → T (once_each n order)
order-once n lu order long bounded =
    let below : (q : ℕ) → q < n → place order q < n = all-below n (place order) (λ i h. let w = (bounded i h).2 in (w.0, w.1, w.2)) in
    let distinct : (p q : ℕ) → p < n → q < n → place order p ≡ place order q → p ≡ q = λ p q h k e.
    (let w = (bounded (place order q) (below q k)).2 in w.3 p h e ∙ sym (w.3 q k refl)) in
    once-each n order (λ q h. below q (rw long at h)) (λ p q h k. distinct p q (rw long at h) (rw long at k))
