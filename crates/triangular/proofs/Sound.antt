-- Orders and diagonals as the loops over them take them: what is left, the next step, and the end.
use Rattle.std.proofs.Common.{◌≡◌, ℕ, zero, suc, ◌+◌, ◌*◌, ◌<◌, ◌≤◌, Bool, true, false, not, ◌&&◌, ◌||◌, eqb, ltb, List, [], ◌∷◌, length, get_or, take, drop, sym, refl, ap, ap₂, ◌∙◌, arith}
use Rattle.std.specs.List.{list_any}
use Rattle.std.proofs.lemmas.List.{drop_more}
use Rattle.std.proofs.lemmas.List.Recursion.{same_from_clauses}
use Rattle.std.proofs.lemmas.Bool.{lt-ltb, le-ltb, ltb-true, and_parts, and_left, and_right}
use Rattle.std.proofs.lemmas.Bool.Decides.{same_from_decides, Decides-eqb, Decides-like}
use Rattle.exact.specs.Value.{is_zero}
use Rattle.element.specs.Matrix.{Row, at, matrix, all_finite}
use Rattle.element.proofs.Rows.{rows_from, rows_next, rows_end}
use Rattle.triangular.proofs.Flat.{from, from-is}
use Rattle.model.specs.Calls.{among, once_each, no_zero_pivot, factors_sound}

-- ---- each row once
eqb-swap : (a b : ℕ) → eqb a b ≡ eqb b a
eqb-swap a b = same_from_decides (eqb a b) (eqb b a) (Decides-eqb a b) (Decides-like (eqb b a) sym sym (Decides-eqb b a))

-- what `contains` answers is what the model asks
among-is : (r : ℕ) (xs : List ℕ) → list_any (λ x. eqb x r) xs ≡ among r xs
unfolding among
among-is r = same_from_clauses (list_any (λ x. eqb x r)) (among r) (λ x b. eqb x r || b) refl (λ _ _. refl) (λ x xs. ap (λ b. b || among r xs) (eqb-swap r x))

-- the first row of those that are left, and the rows after it
module _ (n : ℕ) (left : List ℕ) (h : 1 ≤ length left) where
  abbrev first : ℕ
  first = get_or left 0 0

  abbrev after : List ℕ
  after = from 1 left

  opened : once_each n left ≡ ((ltb first n && not (list_any (λ x. eqb x first) after)) && once_each n after)
  unfolding once_each
  opened =
      ap (once_each n) (drop_more left 0 0 h ∙ ap (λ xs. first ∷ xs) (sym (from-is 1 left)))
      ∙ ap (λ a. (ltb first n && not a) && once_each n after) (sym (among-is first after))

  pub once-next : first < n → list_any (λ x. eqb x first) after ≡ false → once_each n after ≡ once_each n left
  once-next k e = sym (opened ∙ ap₂ (λ b a. (b && not a) && once_each n after) (lt-ltb first n k) e)

  pub once_large : n ≤ first → false ≡ once_each n left
  once_large k = sym (opened ∙ ap (λ b. (b && not (list_any (λ x. eqb x first) after)) && once_each n after) (le-ltb first n k))

  pub once_twice : list_any (λ x. eqb x first) after ≡ true → false ≡ once_each n left
  once_twice e = sym (opened ∙ ap (λ a. (ltb first n && not a) && once_each n after) e ∙ and_left (ltb first n && false) (once_each n after) (and_right (ltb first n) false refl))

pub once_end : (n : ℕ) (left : List ℕ) → length left < 1 → once_each n left ≡ true
unfolding once_each
once_end n [] h = refl
once_end n (x ∷ xs) h = absurd (omega arith)

-- ---- no zero pivot
module _ (n : ℕ) (a : Row) where
  -- with i rows passed, what is left comes to p
  abbrev pub PivotsTo : ℕ → Bool → Type 0
  PivotsTo i p = no_zero_pivot i (rows_from n i a) ≡ p

  module _ (i : ℕ) (p : Bool) (h : i < n) (t : PivotsTo i p) where
    pivots-opened : (not (is_zero (at (take n (drop (i * n) a)) i)) && no_zero_pivot (i + 1) (rows_from n (i + 1) a)) ≡ p
    unfolding no_zero_pivot
    pivots-opened = sym (ap (no_zero_pivot i) (rows_next n i a h)) ∙ t

    pub pivots-next : is_zero (at (take n (drop (i * n) a)) i) ≡ false → PivotsTo (i + 1) p
    pivots-next e = sym (ap (λ b. not b && no_zero_pivot (i + 1) (rows_from n (i + 1) a)) e) ∙ pivots-opened

    pub pivots_fail : is_zero (at (take n (drop (i * n) a)) i) ≡ true → p ≡ false
    pivots_fail e = sym pivots-opened ∙ ap (λ b. not b && no_zero_pivot (i + 1) (rows_from n (i + 1) a)) e

  pub pivots_end : (i : ℕ) (p : Bool) → n ≤ i → PivotsTo i p → p ≡ true
  unfolding no_zero_pivot
  pivots_end i p h t = sym t ∙ ap (no_zero_pivot i) (rows_end n i a h)

-- ---- an order that has each row once has rows below the size only
once-below : (n : ℕ) (xs : List ℕ) → once_each n xs ≡ true → (k : ℕ) → k < length xs → get_or xs k 0 < n
unfolding once_each
once-below n [] e k h = omega arith
once-below n (x ∷ xs) e zero h = ltb-true x n (and_parts (ltb x n) (not (among x xs)) (and_parts (ltb x n && not (among x xs)) (once_each n xs) e).0).0
once-below n (x ∷ xs) e (suc k) h = once-below n xs (and_parts (ltb x n && not (among x xs)) (once_each n xs) e).1 k (omega arith)

pub sound-below : (n : ℕ) (a : Row) (xs : List ℕ) → factors_sound n a xs ≡ true → (k : ℕ) → k < length xs → get_or xs k 0 < n
sound-below n a xs e = once-below n xs (and_parts (once_each n xs) (all_finite a) (and_parts (once_each n xs && all_finite a) (no_zero_pivot 0 (matrix n a)) e).0).0
