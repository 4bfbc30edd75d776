-- Rows and entries of a matrix that lies in one list, by their places.
use Rattle.std.proofs.Common.{◌≡◌, ℕ, zero, suc, ◌+◌, ◌*◌, ◌<◌, T, List, [], ◌∷◌, map, length, get_or, take, drop, sym, refl, ap, ◌∙◌, le_of_suc-le-suc, not-suc-le-zero, zero-mul, arith}
use lib.Ieee.{Float, nan, Format, fits}
use lib.Ieee.Fits.{and_i, and_l, and_r}
use Rattle.std.proofs.lemmas.List.{drop-drop, get_or-take, get_or-drop, length-take, length-drop}
use Rattle.element.specs.Matrix.{Row, Matrix, at, row, rows_of, matrix}
use Rattle.element.specs.Products.{sum_products, sum_in_range, sum_rows, rows_in_range}
use Rattle.element.specs.Promises.{all_fit}
use Rattle.element.proofs.Rows.{row_within}

pub row-rows_of : (r n : ℕ) (xs : Row) (i : ℕ) → i < r → row (rows_of r n xs) i ≡ take n (drop (i * n) xs)
unfolding rows_of
row-rows_of zero n xs i h = absurd (not-suc-le-zero h)
row-rows_of (suc r) n xs zero h = ap (λ k. take n (drop k xs)) (sym (zero-mul n))
row-rows_of (suc r) n xs (suc i) h =
    let along : n + i * n ≡ suc i * n = omega arith in
    row-rows_of r n (drop n xs) i (le_of_suc-le-suc h) ∙ ap (take n) (drop-drop (i * n) n xs ∙ ap (λ k. drop k xs) along)

pub length-rows_of : (r n : ℕ) (xs : Row) → length (rows_of r n xs) ≡ r
unfolding rows_of
length-rows_of zero n xs = refl
length-rows_of (suc r) n xs = ap suc (length-rows_of r n (drop n xs))

-- entry j of the part that is row i
pub at_row : (n : ℕ) (xs : Row) (i j : ℕ) → j < n → at (take n (drop (i * n) xs)) j ≡ at xs (i * n + j)
at_row n xs i j h = get_or-take n (drop (i * n) xs) j _ h ∙ get_or-drop (i * n) xs j _

-- row i has n entries
pub length-row : (n : ℕ) (xs : Row) (i : ℕ) → length xs ≡ n * n → i < n → length (take n (drop (i * n) xs)) ≡ n
length-row n xs i e h = rw (length-take n (drop (i * n) xs), length-drop (i * n) xs) (omega (arith, row_within n i h))

-- the same of the matrix
pub row-length : (n : ℕ) (xs : Row) (i : ℕ) → i < n → length xs ≡ n * n → length (row (matrix n xs) i) ≡ n
row-length n xs i h e = ap length (row-rows_of n n xs i h) ∙ length-row n xs i e h

pub row_at : (n : ℕ) (xs : Row) (i : ℕ) → i < n → (j : ℕ) → j < n → at (row (matrix n xs) i) j ≡ at xs (i * n + j)
row_at n xs i h j k = ap (λ r. at r j) (row-rows_of n n xs i h) ∙ at_row n xs i j k

-- ---- what holds of all entries holds of those of a part
pub fit-take : (f : Format) (n : ℕ) (xs : Row) → T (all_fit f xs) → T (all_fit f (take n xs))
unfolding all_fit
fit-take f zero xs t = tt
fit-take f (suc n) [] t = tt
fit-take f (suc n) (x ∷ xs) t = and_i (fits f x) (all_fit f (take n xs)) (and_l (fits f x) (all_fit f xs) t) (fit-take f n xs (and_r (fits f x) (all_fit f xs) t))

pub fit-drop : (f : Format) (n : ℕ) (xs : Row) → T (all_fit f xs) → T (all_fit f (drop n xs))
unfolding all_fit
fit-drop f zero xs t = t
fit-drop f (suc n) [] t = tt
fit-drop f (suc n) (x ∷ xs) t = fit-drop f n xs (and_r (fits f x) (all_fit f xs) t)

-- the values of a slice of floats, as a function on such a slice knows them
pub fit-values : (f : Format) (xs : List Float) → ((i : ℕ) → T (fits f (get_or xs i nan))) → T (all_fit f (map (λ x. x) xs))
unfolding all_fit
fit-values f [] each = tt
fit-values f (x ∷ xs) each = and_i (fits f x) (all_fit f (map (λ y. y) xs)) (each 0) (fit-values f xs (λ i. each (suc i)))

-- ---- the rows of a product
pub at-sum_rows : (f : Format) (m : Matrix) (x : Row) (i : ℕ) → i < length m → at (sum_rows f m x) i ≡ sum_products f (row m i) x
unfolding sum_rows
at-sum_rows f [] x i h = absurd (not-suc-le-zero h)
at-sum_rows f (r ∷ rs) x zero h = refl
at-sum_rows f (r ∷ rs) x (suc i) h = at-sum_rows f rs x i (le_of_suc-le-suc h)

pub row_in_range : (f : Format) (m : Matrix) (x : Row) (i : ℕ) → i < length m → T (rows_in_range f m x) → T (sum_in_range f (row m i) x)
unfolding rows_in_range
row_in_range f [] x i h t = absurd (not-suc-le-zero h)
row_in_range f (r ∷ rs) x zero h t = and_l (sum_in_range f r x) (rows_in_range f rs x) t
row_in_range f (r ∷ rs) x (suc i) h t = row_in_range f rs x i (le_of_suc-le-suc h) (and_r (sum_in_range f r x) (rows_in_range f rs x) t)
