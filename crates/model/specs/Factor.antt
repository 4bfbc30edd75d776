-- LU factoring with row exchanges, operation by operation. The lower factor's entries, the multipliers, stand below the diagonal of the same rows.
use Rattle.std.specs.Prelude.{ℕ, zero, suc, ◌+◌, Bool, true, false, cond, ◌&&◌, List, [], ◌∷◌, ◌++◌, length, take, drop, is_ok, Ok, Err, Result, slice_index_or, slice_set, Float}
use Rattle.std.specs.Float.Ieee.{div, lt}
use Rattle.std.specs.Float.{float_with_sign, Format}
use Rattle.exact.specs.Value.{is_zero}
use Rattle.exact.specs.Range.{quotient_in_range}
use Rattle.element.specs.Matrix.{Row, Matrix, at, row}
use Rattle.element.specs.Products.{subtract_product, subtraction_in_range}
use Rattle.model.specs.declared.FactorRefusal.{FactorRefusal}
use Rattle.model.specs.declared.FactorRefusal.TheVariants.{Pivot, Range}

-- ---- elimination of one column: l times the pivot row ps is subtracted from the row rs, entry by entry
unfoldable pub subtract_row : Format → Float → Row → Row → Row
subtract_row f l [] rs = []
subtract_row f l (p ∷ ps) [] = []
subtract_row f l (p ∷ ps) (r ∷ rs) = subtract_product f r l p ∷ subtract_row f l ps rs

unfoldable pub subtract_row_in_range : Format → Float → Row → Row → Bool
subtract_row_in_range f l [] rs = true
subtract_row_in_range f l (p ∷ ps) [] = true
subtract_row_in_range f l (p ∷ ps) (r ∷ rs) = subtraction_in_range f r l p && subtract_row_in_range f l ps rs

-- of the row r, with the pivot row p
abbrev pub multiplier : Format → ℕ → Row → Row → Float
multiplier f k p r = div f (at r k) (at p k)

-- the entries left of column k stay, the multiplier takes the place of entry k
abbrev pub eliminate_row : Format → ℕ → Row → Row → Row
eliminate_row f k p r = take k r ++ multiplier f k p r ∷ subtract_row f (multiplier f k p r) (drop (k + 1) p) (drop (k + 1) r)

abbrev pub eliminate_row_in_range : Format → ℕ → Row → Row → Bool
eliminate_row_in_range f k p r = quotient_in_range f (at r k) (at p k) && subtract_row_in_range f (multiplier f k p r) (drop (k + 1) p) (drop (k + 1) r)

unfoldable pub eliminate_rows : Format → ℕ → Row → Matrix → Matrix
eliminate_rows f k p [] = []
eliminate_rows f k p (r ∷ rs) = eliminate_row f k p r ∷ eliminate_rows f k p rs

unfoldable pub eliminate_rows_in_range : Format → ℕ → Row → Matrix → Bool
eliminate_rows_in_range f k p [] = true
eliminate_rows_in_range f k p (r ∷ rs) = eliminate_row_in_range f k p r && eliminate_rows_in_range f k p rs

-- ---- the pivot: the first of the rows from k on whose entry in column k has the largest magnitude
-- x at place b is the largest before place i, from which the rows are
unfoldable pub largest : ℕ → ℕ → ℕ → Float → Matrix → ℕ
largest k i b x [] = b
largest k i b x (r ∷ rs) = cond (lt (float_with_sign false x) (float_with_sign false (at r k))) (largest k (i + 1) i (at r k) rs) (largest k (i + 1) b x rs)

abbrev pub pivot : ℕ → Matrix → ℕ
pivot k m = largest k (k + 1) k (at (row m k) k) (drop (k + 1) m)

abbrev pub swapped : {A : Type 0} → A → ℕ → ℕ → List A → List A
swapped d i j xs = slice_set (slice_set xs i (slice_index_or xs j d)) j (slice_index_or xs i d)

-- ---- the work so far: the rows, which given row stands in each place, and whether it goes on
pub record Factoring : Type 0 where
  pub rows : Matrix
  pub order : List ℕ
  pub outcome : Result (Unit {0}) FactorRefusal

-- the pivot's row changes places with row k
abbrev pub exchange : ℕ → Factoring → Factoring
exchange k s =
    let p = pivot k s.rows in
    record { rows = swapped [] k p s.rows; order = swapped 0 k p s.order; outcome = s.outcome }

-- what is left to do of column k after the exchange
abbrev pub eliminate : Format → ℕ → Factoring → Factoring
eliminate f k s =
    let p = row s.rows k in
    let below = drop (k + 1) s.rows in
    cond (is_zero (at p k)) (record { rows = s.rows; order = s.order; outcome = Err (Pivot k) })
    (cond (eliminate_rows_in_range f k p below) (record { rows = take (k + 1) s.rows ++ eliminate_rows f k p below; order = s.order; outcome = s.outcome })
    (record { rows = s.rows; order = s.order; outcome = Err (Range k) }))

abbrev pub column : Format → ℕ → Factoring → Factoring
column f k s = cond (is_ok s.outcome) (eliminate f k (exchange k s)) s

-- columns 0 to c - 1
unfoldable pub columns : Format → ℕ → Factoring → Factoring
columns f zero s = s
columns f (suc c) s = column f c (columns f c s)

-- 0 to n - 1
unfoldable pub up_to : ℕ → List ℕ
up_to zero = []
up_to (suc n) = up_to n ++ n ∷ []

abbrev pub factored : Format → Matrix → Factoring
factored f m = columns f (length m) (record { rows = m; order = up_to (length m); outcome = Ok tt })
