-- A column eliminated without a look, whose factors reach the threshold: if all entries are finite afterwards, all were finite before, and it is the model's column.
use Rattle.std.proofs.Common.{◌≡◌, ℕ, zero, suc, ◌+◌, ◌-◌, ◌*◌, ◌<◌, Bool, true, false, cond, not, ◌&&◌, T, List, [], ◌∷◌, map, length, drop, is_ok, Ok, sym, ap, ◌∙◌, subst, subst₂, inl, inr, arith}
use lib.Ieee.{Float, Format, mul}
use lib.Ieee.Bits.{is_true}
use lib.Ieee.Fits.{and_i, and_l, and_r}
use lib.Ieee.Scale.{finite}
use Rattle.std.proofs.lemmas.List.{get_or-drop, length-drop}
use Rattle.std.proofs.lemmas.Bool.{cases_lt, cases_order, cond-true, cond-false, not-true}
use Rattle.exact.specs.Value.{is_zero}
use Rattle.exact.specs.Range.{product_in_range, quotient_in_range}
use Rattle.exact.specs.Threshold.{zero_or_reaches}
use Rattle.exact.proofs.Operands.{difference_operands, quotient-dividend}
use Rattle.exact.proofs.Threshold.{product_in_range_lem, quotient_in_range_lem, multiplier-reaches}
use Rattle.element.specs.Matrix.{Row, Matrix, zero_float, at, row, all_finite}
use Rattle.element.specs.Products.{subtract_product, subtraction_in_range}
use Rattle.model.specs.Factor.{Factoring, subtract_row_in_range, multiplier, eliminate_row, eliminate_row_in_range, eliminate_rows_in_range, pivot, exchange, eliminate, column}
use Rattle.element.proofs.Entries.{row_at}
use Rattle.model.proofs.Slice.{Wide, finite_at}
use Rattle.model.proofs.Exchange.{exchanged, exchanged_twice, exchanged-within, length-swapped, get_or-swapped}
use Rattle.model.proofs.Search.{pivot-place}
use Rattle.model.proofs.Rows.{cleared, row_kept, row-cleared, at_left, at-multiplier, at_right}
use Rattle.factor.specs.Slices.{matrix_of}
use Rattle.factor.specs.Thresholds.{all_reach, multiplier_reaches, multipliers_reach, column_reaches, column_cleared, Finite}

-- ---- the tests entry by entry and row by row
all_reach_at : (f : Format) (xs : Row) (j : ℕ) → T (all_reach f xs) → j < length xs → T (zero_or_reaches f (at xs j))
unfolding all_reach
all_reach_at f [] j t h = absurd (omega arith)
all_reach_at f (x ∷ xs) zero t h = and_l (zero_or_reaches f x) (all_reach f xs) t
all_reach_at f (x ∷ xs) (suc j) t h = all_reach_at f xs j (and_r (zero_or_reaches f x) (all_reach f xs) t) (omega arith)

multipliers_reach_at : (f : Format) (k : ℕ) (p : Row) (rs : Matrix) (i : ℕ) → T (multipliers_reach f k p rs) → i < length rs → T (multiplier_reaches f k p (row rs i))
unfolding multipliers_reach
multipliers_reach_at f k p [] i t h = absurd (omega arith)
multipliers_reach_at f k p (r ∷ rs) zero t h = and_l (multiplier_reaches f k p r) (multipliers_reach f k p rs) t
multipliers_reach_at f k p (r ∷ rs) (suc i) t h = multipliers_reach_at f k p rs i (and_r (multiplier_reaches f k p r) (multipliers_reach f k p rs) t) (omega arith)

subtract_in_range : (f : Format) (l : Float) (ps rs : Row) → ((j : ℕ) → j < length ps → j < length rs → T (subtraction_in_range f (at rs j) l (at ps j))) → T (subtract_row_in_range f l ps rs)
unfolding subtract_row_in_range
subtract_in_range f l [] rs each = tt
subtract_in_range f l (p ∷ ps) [] each = tt
subtract_in_range f l (p ∷ ps) (r ∷ rs) each =
    and_i (subtraction_in_range f r l p) (subtract_row_in_range f l ps rs) (each 0 (omega arith) (omega arith))
    (subtract_in_range f l ps rs (λ j h g. each (suc j) (omega arith) (omega arith)))

rows_in_range_lem : (f : Format) (k : ℕ) (p : Row) (rs : Matrix) → ((i : ℕ) → i < length rs → T (eliminate_row_in_range f k p (row rs i))) → T (eliminate_rows_in_range f k p rs)
unfolding eliminate_rows_in_range
rows_in_range_lem f k p [] each = tt
rows_in_range_lem f k p (r ∷ rs) each =
    and_i (eliminate_row_in_range f k p r) (eliminate_rows_in_range f k p rs) (each 0 (omega arith)) (rows_in_range_lem f k p rs (λ i h. each (suc i) (omega arith)))

-- ---- m are the rows after the exchange
module _ (f : Format) (k n : ℕ) (m : Matrix) (hk : k < n) (height : length m ≡ n) (wide : Wide n m)
    (row-reaches : T (all_reach f (drop (k + 1) (row m k)))) (column-reaches : T (multipliers_reach f k (row m k) (drop (k + 1) m)))
    (fine : Finite n (cleared f k (row m k) m)) where
  abbrev p : Row
  p = row m k

  tall : k < length m
  tall = rw height hk

  -- row i below row k
  module _ (i : ℕ) (under : k < i) (hi : i < n) where
    abbrev l : Float
    l = multiplier f k p (row m i)

    fine_at : (j : ℕ) → j < n → T (finite (at (eliminate_row f k p (row m i)) j))
    fine_at j hj = subst (λ r. T (finite (at r j))) (row-cleared f k p m tall i under (rw height hi)) (fine i j hi hj)

    fine-multiplier : T (finite l)
    fine-multiplier = subst (λ x. T (finite x)) (at-multiplier f k n p (row m i) hk (wide k hk) (wide i hi)) (fine_at k hk)

    fine-difference : (j : ℕ) → k < j → j < n → T (finite (subtract_product f (at (row m i) j) l (at p j)))
    fine-difference j h hj = subst (λ x. T (finite x)) (at_right f k n p (row m i) hk (wide k hk) (wide i hi) j h hj) (fine_at j hj)

    reached : T (multiplier_reaches f k p (row m i))
    reached =
        let back : k + 1 + (i - (k + 1)) ≡ i = omega arith in
        subst (λ r. T (multiplier_reaches f k p r)) (get_or-drop (k + 1) m (i - (k + 1)) [] ∙ ap (row m) back)
        (multipliers_reach_at f k p (drop (k + 1) m) (i - (k + 1)) column-reaches (rw (length-drop (k + 1) m) (omega arith)))

    before : (j : ℕ) → j < n → T (finite (at (row m i) j))
    before j hj = elim (cases_order j k) [
      | inl here ↦ rw here (quotient-dividend f (at (row m i) k) (at p k) fine-multiplier)
      | inr (inl left) ↦ subst (λ x. T (finite x)) (at_left f k n p (row m i) hk (wide k hk) (wide i hi) j left) (fine_at j hj)
      | inr (inr right) ↦ (difference_operands f (at (row m i) j) (mul f l (at p j)) (fine-difference j right hj)).0
    ]

    -- entry j of the row, counted from column k + 1 on
    entry_in_range : (j : ℕ) → j < length (drop (k + 1) p) → T (subtraction_in_range f (at (drop (k + 1) (row m i)) j) l (at (drop (k + 1) p) j))
    entry_in_range j h =
        let c = k + 1 + j in
        let right : k < c = omega arith in
        let within : c < n = omega (arith, length-drop (k + 1) p, wide k hk) in
        let difference = fine-difference c right within in
        let q = mul f l (at p c) in
        let factor : T (zero_or_reaches f (at p c)) = subst (λ x. T (zero_or_reaches f x)) (get_or-drop (k + 1) p j zero_float) (all_reach_at f (drop (k + 1) p) j row-reaches h) in
        let product = product_in_range_lem f l (at p c) (multiplier-reaches f (at (row m i) k) (at p k) reached fine-multiplier) factor (difference_operands f (at (row m i) c) q difference).1 in
        subst₂ (λ x y. T (subtraction_in_range f x l y)) (sym (get_or-drop (k + 1) (row m i) j zero_float)) (sym (get_or-drop (k + 1) p j zero_float))
        (and_i (product_in_range f l (at p c)) (finite (subtract_product f (at (row m i) c) l (at p c))) product difference)

    row_in_range : T (eliminate_row_in_range f k p (row m i))
    row_in_range =
        and_i (quotient_in_range f (at (row m i) k) (at p k)) (subtract_row_in_range f l (drop (k + 1) p) (drop (k + 1) (row m i)))
        (quotient_in_range_lem f (at (row m i) k) (at p k) reached fine-multiplier)
        (subtract_in_range f l (drop (k + 1) p) (drop (k + 1) (row m i)) (λ j h g. entry_in_range j h))

  pub cleared_in_range : T (eliminate_rows_in_range f k p (drop (k + 1) m))
  cleared_in_range = rows_in_range_lem f k p (drop (k + 1) m) (λ i h.
      let within : k + 1 + i < n = omega (arith, length-drop (k + 1) m) in
      subst (λ r. T (eliminate_row_in_range f k p r)) (sym (get_or-drop (k + 1) m i [])) (row_in_range (k + 1 + i) (omega arith) within))

  pub finite-before : Finite n m
  finite-before i j hi hj = elim (cases_lt k i) [
    | inl under ↦ before i under hi j hj
    | inr above ↦ subst (λ r. T (finite (at r j))) (row_kept f k p m tall i above) (fine i j hi hj)
  ]

-- ---- the whole column of a factoring that goes on
module _ (f : Format) (k n : ℕ) (s : Factoring) (hk : k < n) (height : length s.rows ≡ n) (wide : Wide n s.rows) (goes : s.outcome ≡ Ok tt)
    (passes : column_reaches f k s ≡ true) (fine : Finite n (column_cleared f k s).rows) where
  abbrev e : Factoring
  e = exchange k s

  found : pivot k s.rows < n
  found = rw height at (pivot-place k s.rows (rw height hk)).1

  row_from : (i : ℕ) → row e.rows i ≡ row s.rows (exchanged k (pivot k s.rows) i)
  row_from i = get_or-swapped [] k (pivot k s.rows) s.rows i (rw height hk) (rw height found)

  within : (i : ℕ) → i < n → exchanged k (pivot k s.rows) i < n
  within i hi = exchanged-within k (pivot k s.rows) n i hk found hi

  height-exchanged : length e.rows ≡ n
  height-exchanged = length-swapped [] k (pivot k s.rows) s.rows ∙ height

  wide-exchanged : Wide n e.rows
  wide-exchanged i hi = ap length (row_from i) ∙ wide (exchanged k (pivot k s.rows) i) (within i hi)

  abbrev nonzero : Bool
  nonzero = not (is_zero (at (row e.rows k) k))

  abbrev row_passes : Bool
  row_passes = all_reach f (drop (k + 1) (row e.rows k))

  abbrev column_passes : Bool
  column_passes = multipliers_reach f k (row e.rows k) (drop (k + 1) e.rows)

  all : T (nonzero && row_passes && column_passes)
  all = subst T (sym passes) tt

  of_row : T row_passes
  of_row = and_r nonzero row_passes (and_l (nonzero && row_passes) column_passes all)

  of_column : T column_passes
  of_column = and_r (nonzero && row_passes) column_passes all

  pivot-nonzero : is_zero (at (row e.rows k) k) ≡ false
  pivot-nonzero = not-true _ (is_true _ (and_l nonzero row_passes (and_l (nonzero && row_passes) column_passes all)))

  pub finite-exchanged : Finite n s.rows
  finite-exchanged i j hi hj =
      let x = exchanged k (pivot k s.rows) in
      let from : row e.rows (x i) ≡ row s.rows i = row_from (x i) ∙ ap (row s.rows) (exchanged_twice k (pivot k s.rows) i) in
      subst (λ r. T (finite (at r j))) from
      (finite-before f k n e.rows hk height-exchanged wide-exchanged of_row of_column fine (x i) j (within i hi) hj)

  pub column-is : column_cleared f k s ≡ column f k s
  column-is =
      let ranged = is_true _ (cleared_in_range f k n e.rows hk height-exchanged wide-exchanged of_row of_column fine) in
      sym
      (ap (λ o. cond (is_ok o) (eliminate f k e) s) goes
      ∙ cond-false (is_zero (at (row e.rows k) k)) _ _ pivot-nonzero
      ∙ cond-true (eliminate_rows_in_range f k (row e.rows k) (drop (k + 1) e.rows)) _ _ ranged)

-- ---- at the end
pub finite-matrix : {X : Type 0} (v : X → Float) (n : ℕ) (xs : List X) → all_finite (map v xs) ≡ true → Finite n (matrix_of v n xs)
finite-matrix v n xs t i j hi hj = subst (λ x. T (finite x)) (sym (row_at n (map v xs) i hi j hj)) (finite_at (map v xs) (subst T (sym t) tt) (i * n + j))
