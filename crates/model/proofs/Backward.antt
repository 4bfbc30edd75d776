-- The backward solve by entry: each is the right side's less the products of its row with the entries after it, divided by the pivot, and its error in exact values.
use Rattle.std.proofs.Common.{◌≡◌, ℕ, zero, suc, ◌+◌, ◌-◌, ◌*◌, ◌^◌, ◌<◌, ◌≤◌, false, ◌&&◌, T, [], ◌∷◌, length, drop, ℤ, pos, ◌-ℤ◌, ◌*ℤ◌, nat_abs, sym, refl, ap, ◌∙◌, ap₂, add-zero, add_comm, zero-add, add-one, arith}
use lib.IntN.{+ℤ_comm, *ℤ_comm}
use lib.Ieee.{Float, Format, prec, fits, div}
use lib.Ieee.Fits.{and_l, and_r, div-fits}
use lib.Ieee.Scale.{finite}
use Rattle.std.proofs.lemmas.List.{get_or-drop, length-drop}
use Rattle.exact.specs.Sum.{sumℕ, sumℤ}
use Rattle.exact.specs.Value.{unit, value, is_zero}
use Rattle.exact.specs.Range.{quotient_in_range}
use Rattle.exact.proofs.Laws.{quotient-law}
use Rattle.exact.proofs.Magnitude.{quotient-finite, not-zero}
use Rattle.analysis.specs.Factors.{upper}
use Rattle.analysis.proofs.Residual.{Close, close-divided}
use Rattle.analysis.proofs.Triangle.{termsℤ, termsℕ, sum-upper}
use Rattle.analysis.proofs.Factors.{near-sum}
use Rattle.element.specs.Matrix.{Row, Matrix, zero_float, at, row, matrix, all_finite}
use Rattle.element.specs.Products.{subtract_products, subtractions_in_range}
use Rattle.element.specs.Promises.{all_fit, dot, magnitudes}
use Rattle.model.specs.Solve.{backward, backward_in_range}
use Rattle.model.specs.Promises.{entry, Square, RightSide}
use Rattle.element.proofs.Subtraction.{products-finite, products-fit}
use Rattle.element.proofs.Entries.{length-rows_of, row-length, row_at}
use Rattle.model.proofs.Slice.{finite_at, finite-all, fit_at, fit_all, size-within}
use Rattle.model.proofs.Triangular.{row-close}

-- what is divided by the pivot in place i of the row r, for entry k of x; y is the entry of the right side
abbrev numerator : Format → Float → Row → Row → ℕ → ℕ → Float
numerator f y r x i k = subtract_products f y (drop (suc i) r) (drop (suc k) x)

-- entry k of x
record Substituted (f : Format) (y : Float) (r x : Row) (i k : ℕ) : Type 0 where
  result : at x k ≡ div f (numerator f y r x i k) (at r i)
  passed : T (subtractions_in_range f y (drop (suc i) r) (drop (suc k) x))
  divides : T (quotient_in_range f (numerator f y r x i k) (at r i))

module _ (f : Format) where
  backward-length : (i : ℕ) (rs : Matrix) (ys : Row) → length rs ≡ length ys → length (backward f i rs ys) ≡ length rs
  unfolding backward
  backward-length i [] ys e = refl
  backward-length i (r ∷ rs) [] e = absurd (omega arith)
  backward-length i (r ∷ rs) (y ∷ ys) e = ap suc (backward-length (i + 1) rs ys (omega arith))

  -- what is in range: the rows below, the products of this one, and its quotient
  opened : (i : ℕ) (r : Row) (rs : Matrix) (y : Float) (ys : Row) → T (backward_in_range f i (r ∷ rs) (y ∷ ys)) →
      let xs = backward f (i + 1) rs ys in
      T (backward_in_range f (i + 1) rs ys)
      × T (subtractions_in_range f y (drop (suc i) r) xs)
      × T (quotient_in_range f (subtract_products f y (drop (suc i) r) xs) (at r i))
  unfolding backward_in_range
  opened i r rs y ys t =
      let xs = backward f (i + 1) rs ys in
      let rest = backward_in_range f (i + 1) rs ys in
      let products = subtractions_in_range f y (drop (i + 1) r) xs in
      let quotient = quotient_in_range f (subtract_products f y (drop (i + 1) r) xs) (at r i) in
      let both = and_l (rest && products) quotient t in
      (and_l rest products both, rw (← add-one i) (and_r rest products both), rw (← add-one i) (and_r (rest && products) quotient t))

  backward-entry : (i : ℕ) (rs : Matrix) (ys : Row) → length rs ≡ length ys → T (backward_in_range f i rs ys) → (j : ℕ) → j < length rs
      → Substituted f (at ys j) (row rs j) (backward f i rs ys) (i + j) j
  unfolding backward
  backward-entry i [] ys e t j h = absurd (omega arith)
  backward-entry i (r ∷ rs) [] e t j h = absurd (omega arith)
  backward-entry i (r ∷ rs) (y ∷ ys) e t zero h =
      let (rest, products, quotient) = opened i r rs y ys t in
      rw (add-zero i) (record { result = rw (← add-one i); passed = products; divides = quotient })
  backward-entry i (r ∷ rs) (y ∷ ys) e t (suc j) h =
      let place : i + 1 + j ≡ i + suc j = omega arith in
      let below = rw place at (backward-entry (i + 1) rs ys (omega arith) (opened i r rs y ys t).0 j (omega arith)) in
      record { result = below.result; passed = below.passed; divides = below.divides }

-- with the factors in lu, for the right side y
module _ (f : Format) (n : ℕ) (lu : Row) (square : Square f n lu) (pivots : (i : ℕ) → i < n → 0 < nat_abs (entry n lu i i))
    (y : Row) (right : RightSide f n y) (t : T (backward_in_range f 0 (matrix n lu) y)) where
  abbrev x : Row
  x = backward f 0 (matrix n lu) y

  level : length (matrix n lu) ≡ length y
  level = length-rows_of n n lu ∙ sym right.long

  long : length x ≡ n
  long = backward-length f 0 (matrix n lu) y level ∙ length-rows_of n n lu

  entries : (i : ℕ) → i < n → Substituted f (at y i) (row (matrix n lu) i) x i i
  entries i h = rw zero-add at (backward-entry f 0 (matrix n lu) y level t i (rw (length-rows_of n n lu) h))

  backward-fit : T (all_fit f x)
  backward-fit = fit_all f x (λ i h. rw (entries i (rw long at h)).result (div-fits f _ _))

  pivot_at : (i : ℕ) → i < n → at (row (matrix n lu) i) i ≡ at lu (i * n + i)
  pivot_at i h = row_at n lu i h i h

  pub backward-finite : T (all_finite x)
  backward-finite = finite-all x (λ i h.
      let below : i < n = rw long at h in
      let e = entries i below in
      let pivot = at (row (matrix n lu) i) i in
      let fit : T (fits f pivot) = rw (pivot_at i below) (fit_at f lu square.fit (i * n + i)) in
      let fine : T (finite pivot) = rw (pivot_at i below) (finite_at lu square.finite (i * n + i)) in
      let some : is_zero pivot ≡ false = rw (pivot_at i below) (not-zero (at lu (i * n + i)) (pivots i below)) in
      let started = products-finite f (at y i) _ _ (finite_at y right.finite i) e.passed in
      rw e.result (quotient-finite f _ pivot (products-fit f (at y i) _ _ (fit_at f y right.fit i)) fit started fine some e.divides))

  -- the entries right of the diagonal in row i, and those of x that go with them
  abbrev across : ℕ → ℕ → Float
  across i k = at lu (i * n + (suc i + k))

  abbrev after : ℕ → ℕ → Float
  after i k = at x (suc i + k)

  close : (i : ℕ) → i < n
      → Close (2 ^ prec f) (n - suc i) (value (at y i) *ℤ pos unit) (dot (n - suc i) (across i) (after i)) (magnitudes (n - suc i) (across i) (after i))
      (value (numerator f (at y i) (row (matrix n lu) i) x i i) *ℤ pos unit)
  close i h =
      let r = row (matrix n lu) i in
      let few = size-within f n square.size in
      row-close f (at y i) (drop (suc i) r) (drop (suc i) x) (n - suc i) (across i) (after i)
      (fit_at f y right.fit i) (λ k. fit_at f lu square.fit (i * n + (suc i + k))) (λ k. fit_at f x backward-fit (suc i + k))
      (length-drop (suc i) r ∙ ap (λ l. l - suc i) (row-length n lu i h square.long)) (length-drop (suc i) x ∙ ap (λ l. l - suc i) long)
      (λ k below. get_or-drop (suc i) r k zero_float ∙ row_at n lu i h (suc i + k) (omega arith)) (λ k below. get_or-drop (suc i) x k zero_float)
      (omega arith) (entries i h).passed

  divided : (i : ℕ) → i < n
      → Close (2 ^ prec f) (n - suc i + 1) (value (at y i) *ℤ pos unit) (dot (n - suc i) (across i) (after i)) (magnitudes (n - suc i) (across i) (after i))
      (entry n lu i i *ℤ value (at x i))
  divided i h =
      let e = entries i h in
      let few = size-within f n square.size in
      let r = row (matrix n lu) i in
      let fit : T (fits f (at r i)) = rw (pivot_at i h) (fit_at f lu square.fit (i * n + i)) in
      let s = numerator f (at y i) r x i i in
      let one = quotient-law f s (at r i) (products-fit f (at y i) _ _ (fit_at f y right.fit i)) fit e.divides in
      let commuted : value (div f s (at r i)) *ℤ value (at r i) ≡ entry n lu i i *ℤ value (at x i) =
      *ℤ_comm _ (value (at r i)) ∙ ap₂ (λ p q. value p *ℤ value q) (pivot_at i h) (sym e.result) in
      close-divided (entry n lu i i *ℤ value (at x i)) (omega arith) (close i h) (rw commuted at one.of_computed)

  pub backward-near : (i : ℕ) → i < n
      → (2 ^ prec f - n) * nat_abs (value (at y i) *ℤ pos unit -ℤ sumℤ n (λ j. upper (entry n lu) i j *ℤ value (at x j)))
      ≤ n * sumℕ n (λ j. nat_abs (upper (entry n lu) i j) * nat_abs (value (at x j)))
  backward-near i h =
      let v : ℕ → ℤ = λ j. value (at x j) in
      near-sum n (entry n lu i i) (v i) (omega arith) (divided i h)
      (sum-upper termsℤ n (entry n lu) i v h ∙ +ℤ_comm (entry n lu i i *ℤ v i) (dot (n - suc i) (across i) (after i)))
      (sum-upper termsℕ n (entry n lu) i v h ∙ add_comm (nat_abs (entry n lu i i) * nat_abs (v i)) (magnitudes (n - suc i) (across i) (after i)))
