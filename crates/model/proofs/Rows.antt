-- The elimination of one column, entry by entry: what each row is afterwards, and that each operation was in range.
use Rattle.std.proofs.Common.{◌≡◌, ℕ, zero, suc, ◌+◌, ◌-◌, ◌<◌, ◌≤◌, T, [], ◌∷◌, ◌++◌, length, take, drop, refl, ap, ◌∙◌, subst, ap₂, subst₂, arith}
use lib.Ieee.{Float, Format}
use lib.Ieee.Fits.{and_l, and_r}
use Rattle.std.proofs.lemmas.List.{get_or_append_left, get_or-append_right, get_or_at, get_or-take, get_or-drop, length-append, length-take-le, length-drop}
use Rattle.exact.specs.Range.{quotient_in_range}
use Rattle.element.specs.Matrix.{Row, Matrix, zero_float, at, row}
use Rattle.element.specs.Products.{subtract_product, subtraction_in_range}
use Rattle.model.specs.Factor.{subtract_row, subtract_row_in_range, multiplier, eliminate_row, eliminate_row_in_range, eliminate_rows, eliminate_rows_in_range}

-- ---- a multiple of the pivot row subtracted
module _ (f : Format) (l : Float) where
  length-subtract_row : (ps rs : Row) → length ps ≡ length rs → length (subtract_row f l ps rs) ≡ length rs
  unfolding subtract_row
  length-subtract_row [] [] e = refl
  length-subtract_row [] (r ∷ rs) e = e
  length-subtract_row (p ∷ ps) [] e = refl
  length-subtract_row (p ∷ ps) (r ∷ rs) e = ap suc (length-subtract_row ps rs (omega arith))

  at-subtract_row : (ps rs : Row) (j : ℕ) → j < length ps → j < length rs → at (subtract_row f l ps rs) j ≡ subtract_product f (at rs j) l (at ps j)
  unfolding subtract_row
  at-subtract_row [] rs j h g = absurd (omega arith)
  at-subtract_row (p ∷ ps) [] j h g = absurd (omega arith)
  at-subtract_row (p ∷ ps) (r ∷ rs) zero h g = refl
  at-subtract_row (p ∷ ps) (r ∷ rs) (suc j) h g = at-subtract_row ps rs j (omega arith) (omega arith)

  subtract_row_in_range_lem : (ps rs : Row) (j : ℕ) → T (subtract_row_in_range f l ps rs) → j < length ps → j < length rs → T (subtraction_in_range f (at rs j) l (at ps j))
  unfolding subtract_row_in_range
  subtract_row_in_range_lem [] rs j t h g = absurd (omega arith)
  subtract_row_in_range_lem (p ∷ ps) [] j t h g = absurd (omega arith)
  subtract_row_in_range_lem (p ∷ ps) (r ∷ rs) zero t h g = and_l (subtraction_in_range f r l p) (subtract_row_in_range f l ps rs) t
  subtract_row_in_range_lem (p ∷ ps) (r ∷ rs) (suc j) t h g =
      subtract_row_in_range_lem ps rs j (and_r (subtraction_in_range f r l p) (subtract_row_in_range f l ps rs) t) (omega arith) (omega arith)

-- ---- one row r of n entries, with the pivot row p
module _ (f : Format) (k n : ℕ) (p r : Row) (hk : k < n) (wp : length p ≡ n) (wr : length r ≡ n) where
  kept : length (take k r) ≡ k
  kept = length-take-le k r (omega arith)

  pub length-eliminate_row : length (eliminate_row f k p r) ≡ n
  length-eliminate_row =
      let tails : length (drop (k + 1) p) ≡ length (drop (k + 1) r) = rw (length-drop (k + 1) p, length-drop (k + 1) r, wp, wr) refl in
      let tail = length-subtract_row f (multiplier f k p r) (drop (k + 1) p) (drop (k + 1) r) tails in
      length-append (take k r) _ ∙ omega (arith, kept, tail, length-drop (k + 1) r)

  pub at_left : (j : ℕ) → j < k → at (eliminate_row f k p r) j ≡ at r j
  at_left j h = get_or_append_left (take k r) _ zero_float j (rw kept h) ∙ get_or-take k r j zero_float h

  pub at-multiplier : at (eliminate_row f k p r) k ≡ multiplier f k p r
  at-multiplier = get_or_at (take k r) (multiplier f k p r) _ zero_float k kept

  pub multiplier_in_range : T (eliminate_row_in_range f k p r) → T (quotient_in_range f (at r k) (at p k))
  multiplier_in_range = and_l (quotient_in_range f (at r k) (at p k)) (subtract_row_in_range f (multiplier f k p r) (drop (k + 1) p) (drop (k + 1) r))

  -- right of column k
  module _ (j : ℕ) (h : k < j) (hj : j < n) where
    within : (xs : Row) → length xs ≡ n → j - (k + 1) < length (drop (k + 1) xs)
    within xs w = rw (length-drop (k + 1) xs, w) (omega arith)

    at_rest : (xs : Row) → at (drop (k + 1) xs) (j - (k + 1)) ≡ at xs j
    at_rest xs =
        let back : k + 1 + (j - (k + 1)) ≡ j = omega arith in
        get_or-drop (k + 1) xs (j - (k + 1)) zero_float ∙ ap (at xs) back

    pub at_right : at (eliminate_row f k p r) j ≡ subtract_product f (at r j) (multiplier f k p r) (at p j)
    at_right =
        let l = multiplier f k p r in
        let next : j - k ≡ suc (j - (k + 1)) = omega arith in
        get_or-append_right (take k r) _ k j zero_float kept (omega arith)
        ∙ ap (at (l ∷ subtract_row f l (drop (k + 1) p) (drop (k + 1) r))) next
        ∙ at-subtract_row f l (drop (k + 1) p) (drop (k + 1) r) (j - (k + 1)) (within p wp) (within r wr)
        ∙ ap₂ (λ x y. subtract_product f x l y) (at_rest r) (at_rest p)

    pub right_in_range : T (eliminate_row_in_range f k p r) → T (subtraction_in_range f (at r j) (multiplier f k p r) (at p j))
    right_in_range t =
        let l = multiplier f k p r in
        let each = and_r (quotient_in_range f (at r k) (at p k)) (subtract_row_in_range f l (drop (k + 1) p) (drop (k + 1) r)) t in
        subst₂ (λ x y. T (subtraction_in_range f x l y)) (at_rest r) (at_rest p)
        (subtract_row_in_range_lem f l (drop (k + 1) p) (drop (k + 1) r) (j - (k + 1)) each (within p wp) (within r wr))

-- ---- the rows below the pivot row
module _ (f : Format) (k : ℕ) (p : Row) where
  length-eliminate_rows : (rs : Matrix) → length (eliminate_rows f k p rs) ≡ length rs
  unfolding eliminate_rows
  length-eliminate_rows [] = refl
  length-eliminate_rows (r ∷ rs) = ap suc (length-eliminate_rows rs)

  row-eliminate_rows : (rs : Matrix) (i : ℕ) → i < length rs → row (eliminate_rows f k p rs) i ≡ eliminate_row f k p (row rs i)
  unfolding eliminate_rows
  row-eliminate_rows [] i h = absurd (omega arith)
  row-eliminate_rows (r ∷ rs) zero h = refl
  row-eliminate_rows (r ∷ rs) (suc i) h = row-eliminate_rows rs i (omega arith)

  eliminate_rows_in_range_lem : (rs : Matrix) (i : ℕ) → T (eliminate_rows_in_range f k p rs) → i < length rs → T (eliminate_row_in_range f k p (row rs i))
  unfolding eliminate_rows_in_range
  eliminate_rows_in_range_lem [] i t h = absurd (omega arith)
  eliminate_rows_in_range_lem (r ∷ rs) zero t h = and_l (eliminate_row_in_range f k p r) (eliminate_rows_in_range f k p rs) t
  eliminate_rows_in_range_lem (r ∷ rs) (suc i) t h = eliminate_rows_in_range_lem rs i (and_r (eliminate_row_in_range f k p r) (eliminate_rows_in_range f k p rs) t) (omega arith)

  -- all the rows m, of which those up to k stay
  abbrev pub cleared : Matrix → Matrix
  cleared m = take (k + 1) m ++ eliminate_rows f k p (drop (k + 1) m)

  module _ (m : Matrix) (hk : k < length m) where
    above : length (take (k + 1) m) ≡ k + 1
    above = length-take-le (k + 1) m (omega arith)

    pub length-cleared : length (cleared m) ≡ length m
    length-cleared =
        length-append (take (k + 1) m) _ ∙ omega (arith, above, length-eliminate_rows (drop (k + 1) m), length-drop (k + 1) m)

    pub row_kept : (i : ℕ) → i ≤ k → row (cleared m) i ≡ row m i
    row_kept i h = get_or_append_left (take (k + 1) m) _ [] i (rw above (omega arith)) ∙ get_or-take (k + 1) m i [] (omega arith)

    -- below row k
    module _ (i : ℕ) (h : k < i) (hi : i < length m) where
      row_below : row (drop (k + 1) m) (i - (k + 1)) ≡ row m i
      row_below =
          let back : k + 1 + (i - (k + 1)) ≡ i = omega arith in
          get_or-drop (k + 1) m (i - (k + 1)) [] ∙ ap (row m) back

      below : i - (k + 1) < length (drop (k + 1) m)
      below = rw (length-drop (k + 1) m) (omega arith)

      pub row-cleared : row (cleared m) i ≡ eliminate_row f k p (row m i)
      row-cleared =
          get_or-append_right (take (k + 1) m) _ (k + 1) i [] above (omega arith)
          ∙ row-eliminate_rows (drop (k + 1) m) (i - (k + 1)) below
          ∙ ap (eliminate_row f k p) row_below

      pub row_in_range : T (eliminate_rows_in_range f k p (drop (k + 1) m)) → T (eliminate_row_in_range f k p (row m i))
      row_in_range t = subst (λ r. T (eliminate_row_in_range f k p r)) row_below (eliminate_rows_in_range_lem (drop (k + 1) m) (i - (k + 1)) t below)
