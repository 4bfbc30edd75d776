-- Tests of all entries of a row, by entry; a square matrix in one slice and as rows; and of a matrix that a call takes, that every entry is a finite value of the format.
use Rattle.std.proofs.Common.{◌≡◌, ℕ, zero, suc, ◌+◌, ◌*◌, ◌^◌, ◌<◌, Bool, true, ◌&&◌, T, leb, [], ◌∷◌, ◌++◌, length, take, drop, refl, ap, ◌∙◌, subst, ap₂, zero-lt-suc, arith, leb→le}
use lib.Ieee.{Float, Format, prec, fits}
use lib.Ieee.Fits.{and_i, and_l, and_r}
use lib.Ieee.Scale.{finite}
use Rattle.std.proofs.lemmas.List.{get_or_append_left, get_or-append-add, take_at, drop_at, length-append, length-drop, take-append-drop}
use Rattle.element.specs.Matrix.{Row, Matrix, zero_float, at, row, all_finite, rows_of, matrix}
use Rattle.element.specs.Multiply.{size_taken}
use Rattle.element.specs.Promises.{all_fit}
use Rattle.element.proofs.Entries.{row_at}
use Rattle.element.proofs.Subtraction.{size_below}
use Rattle.model.specs.Calls.{flat}
use Rattle.model.specs.Promises.{Square}

-- ---- a test of every entry, as `all_finite` and `all_fit f` are
passes : (Float → Bool) → Row → Bool
passes p [] = true
passes p (x ∷ xs) = p x && passes p xs

all-finite : (xs : Row) → all_finite xs ≡ passes finite xs
unfolding all_finite passes
all-finite [] = refl
all-finite (x ∷ xs) = ap (λ t. finite x && t) (all-finite xs)

all-fit : (f : Format) (xs : Row) → all_fit f xs ≡ passes (fits f) xs
unfolding all_fit passes
all-fit f [] = refl
all-fit f (x ∷ xs) = ap (λ t. fits f x && t) (all-fit f xs)

module _ (p : Float → Bool) where
  -- also past the end, where the entries are zero
  passes_at : T (p zero_float) → (xs : Row) → T (passes p xs) → (i : ℕ) → T (p (at xs i))
  unfolding passes
  passes_at z [] t i = z
  passes_at z (x ∷ xs) t zero = and_l (p x) (passes p xs) t
  passes_at z (x ∷ xs) t (suc i) = passes_at z xs (and_r (p x) (passes p xs) t) i

  passes-all : (xs : Row) → ((i : ℕ) → i < length xs → T (p (at xs i))) → T (passes p xs)
  unfolding passes
  passes-all [] each = tt
  passes-all (x ∷ xs) each = and_i (p x) (passes p xs) (each 0 (omega arith)) (passes-all xs (λ i below. each (suc i) (omega arith)))

  passes_append : (xs ys : Row) → T (passes p xs) → T (passes p ys) → T (passes p (xs ++ ys))
  unfolding passes
  passes_append [] ys s t = t
  passes_append (x ∷ xs) ys s t = and_i (p x) (passes p (xs ++ ys)) (and_l (p x) (passes p xs) s) (passes_append xs ys (and_r (p x) (passes p xs) s) t)

  passes-flat : (m : Matrix) → ((i : ℕ) → i < length m → T (passes p (row m i))) → T (passes p (flat m))
  unfolding passes flat
  passes-flat [] each = tt
  passes-flat (r ∷ rs) each = passes_append r (flat rs) (each 0 (omega arith)) (passes-flat rs (λ i below. each (suc i) (omega arith)))

pub finite_at : (xs : Row) → T (all_finite xs) → (i : ℕ) → T (finite (at xs i))
finite_at xs t = passes_at finite tt xs (rw all-finite at t)

pub finite-all : (xs : Row) → ((i : ℕ) → i < length xs → T (finite (at xs i))) → T (all_finite xs)
finite-all xs each = rw all-finite (passes-all finite xs each)

pub fit_at : (f : Format) (xs : Row) → T (all_fit f xs) → (i : ℕ) → T (fits f (at xs i))
unfolding fits
fit_at f xs t = passes_at (fits f) tt xs (rw all-fit at t)

pub fit_all : (f : Format) (xs : Row) → ((i : ℕ) → i < length xs → T (fits f (at xs i))) → T (all_fit f xs)
fit_all f xs each = rw all-fit (passes-all (fits f) xs each)

-- n is small beside 2^p
pub size-within : (f : Format) (n : ℕ) → T (size_taken n) → 3 * n < 2 ^ prec f
size-within f n t = size_below f n (leb→le n 128 (and_r (leb 1 n) (leb n 128) t))

-- ---- rows and a slice
-- each of the first n rows has n entries
abbrev pub Wide : ℕ → Matrix → Type 0
Wide n m = (i : ℕ) → i < n → length (row m i) ≡ n

pub at-flat : (n : ℕ) (m : Matrix) → ((i : ℕ) → i < length m → length (row m i) ≡ n)
    → (i j : ℕ) → i < length m → j < n → at (flat m) (i * n + j) ≡ at (row m i) j
unfolding flat
at-flat n [] wide i j hi hj = absurd (omega arith)
at-flat n (r ∷ rs) wide zero j hi hj =
    let start : 0 * n + j ≡ j = omega arith in
    ap (at (r ++ flat rs)) start ∙ get_or_append_left r (flat rs) zero_float j (rw (wide 0 (zero-lt-suc (length rs))) hj)
at-flat n (r ∷ rs) wide (suc i) j hi hj =
    let along : suc i * n + j ≡ length r + (i * n + j) = rw (wide 0 (zero-lt-suc (length rs))) (omega arith) in
    ap (at (r ++ flat rs)) along ∙ get_or-append-add r (flat rs) (i * n + j) zero_float
    ∙ at-flat n rs (λ t h. wide (suc t) (omega arith)) i j (omega arith) hj

-- ---- rows put into one slice: n rows of n entries each, all finite values of the format
pub record SquareRows (f : Format) (n : ℕ) (m : Matrix) : Type 0 where
  pub count : length m ≡ n
  pub wide : (i : ℕ) → i < n → length (row m i) ≡ n
  pub finite : (i : ℕ) → i < n → T (all_finite (row m i))
  pub fit : (i : ℕ) → i < n → T (all_fit f (row m i))

flat-length : (n : ℕ) (m : Matrix) → ((i : ℕ) → i < length m → length (row m i) ≡ n) → length (flat m) ≡ length m * n
unfolding flat
flat-length n [] wide = omega arith
flat-length n (r ∷ rs) wide =
    let rest = flat-length n rs (λ i below. wide (suc i) (omega arith)) in
    length-append r (flat rs) ∙ omega (arith, wide 0 (omega arith))

rows-flat : (n : ℕ) (m : Matrix) → ((i : ℕ) → i < length m → length (row m i) ≡ n) → rows_of (length m) n (flat m) ≡ m
unfolding flat rows_of
rows-flat n [] wide = refl
rows-flat n (r ∷ rs) wide =
    let first = wide 0 (omega arith) in
    ap₂ ◌∷◌ (take_at r (flat rs) n first) (ap (rows_of (length rs) n) (drop_at r (flat rs) n first) ∙ rows-flat n rs (λ i below. wide (suc i) (omega arith)))

module _ {f : Format} {n : ℕ} {m : Matrix} (rows : SquareRows f n m) where
  below : (i : ℕ) → i < length m → i < n
  below i h = rw rows.count at h

  pub matrix-flat : matrix n (flat m) ≡ m
  matrix-flat = subst (λ k. rows_of k n (flat m) ≡ m) rows.count (rows-flat n m (λ i h. rows.wide i (below i h)))

  pub flat-square : T (size_taken n) → Square f n (flat m)
  flat-square size = record {
    size = size;
    long = flat-length n m (λ i h. rows.wide i (below i h)) ∙ ap (λ k. k * n) rows.count;
    finite = rw all-finite (passes-flat finite m (λ i h. rw all-finite at (rows.finite i (below i h))));
    fit = rw all-fit (passes-flat (fits f) m (λ i h. rw all-fit at (rows.fit i (below i h))));
  }

-- ---- a matrix that a call takes
-- a finite value of the format
pub record FiniteValue (f : Format) (x : Float) : Type 0 where
  pub fit : T (fits f x)
  pub number : T (finite x)

pub square-values : {f : Format} {n : ℕ} {a : Row} → Square f n a → (i j : ℕ) → i < n → j < n → FiniteValue f (at (row (matrix n a) i) j)
square-values {f} {n} {a} square i j hi hj =
    rw (row_at n a i hi j hj) (record { fit = fit_at f a square.fit (i * n + j); number = finite_at a square.finite (i * n + j) })

-- ---- taken into rows and put together again
pub flat-rows_of : (r n : ℕ) (xs : Row) → length xs ≡ r * n → flat (rows_of r n xs) ≡ xs
unfolding rows_of flat
flat-rows_of zero n [] e = refl
flat-rows_of zero n (x ∷ xs) e = absurd (omega arith)
flat-rows_of (suc r) n xs e =
    let left : length (drop n xs) ≡ r * n = omega (arith, length-drop n xs) in
    ap (λ ys. take n xs ++ ys) (flat-rows_of r n (drop n xs) left) ∙ take-append-drop n xs
