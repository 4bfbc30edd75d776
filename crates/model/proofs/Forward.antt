-- The forward solve by entry: each is the right side's less the products of its row with the entries before it, and its error in exact values.
use Rattle.std.proofs.Common.{◌≡◌, ℕ, zero, suc, ◌+◌, ◌-◌, ◌*◌, ◌^◌, ◌<◌, ◌≤◌, T, [], ◌∷◌, ◌++◌, length, take, ℤ, pos, ◌-ℤ◌, ◌*ℤ◌, nat_abs, sym, refl, ap, ◌∙◌, add-zero, zero-add, arith}
use lib.Ieee.{Float, Format, prec}
use lib.Ieee.Fits.{and_l, and_r}
use Rattle.std.proofs.lemmas.List.{get_or-take, get_or_push, length_push, length-take-le, take_all, take-take, take_at}
use Rattle.exact.specs.Sum.{sumℕ, sumℤ}
use Rattle.exact.specs.Value.{unit, value}
use Rattle.analysis.specs.Factors.{lower}
use Rattle.analysis.proofs.Residual.{Close}
use Rattle.analysis.proofs.Triangle.{termsℤ, termsℕ, sum-lower}
use Rattle.analysis.proofs.Factors.{near-sum}
use Rattle.element.specs.Matrix.{Row, Matrix, zero_float, at, row, matrix}
use Rattle.element.specs.Products.{subtract_products, subtractions_in_range}
use Rattle.element.specs.Promises.{dot, magnitudes}
use Rattle.model.specs.Solve.{forward, forward_in_range}
use Rattle.model.specs.Promises.{entry, Square, RightSide}
use Rattle.element.proofs.Subtraction.{products-finite, products-fit}
use Rattle.element.proofs.Entries.{length-rows_of, row-length, row_at}
use Rattle.model.proofs.Triangular.{row-close}
use Rattle.model.proofs.Slice.{finite_at, finite-all, fit_at, fit_all, size-within}

-- entry k of y, from an entry b of the right side and its row r
record Substituted (f : Format) (b : Float) (r y : Row) (k : ℕ) : Type 0 where
  result : at y k ≡ subtract_products f b (take k r) (take k y)
  passed : T (subtractions_in_range f b (take k r) (take k y))

module _ (f : Format) where
  forward-length : (rs : Matrix) (bs ys : Row) → length rs ≡ length bs → length (forward f rs bs ys) ≡ length ys + length rs
  unfolding forward
  forward-length [] bs ys e = sym (add-zero (length ys))
  forward-length (r ∷ rs) [] ys e = absurd (omega arith)
  forward-length (r ∷ rs) (b ∷ bs) ys e =
      let s = subtract_products f b (take (length ys) r) ys in
      forward-length rs bs (ys ++ s ∷ []) (omega arith) ∙ omega (arith, length_push ys s)

  -- the entries that are there stay
  forward_keeps : (rs : Matrix) (bs ys : Row) → take (length ys) (forward f rs bs ys) ≡ ys
  unfolding forward
  forward_keeps [] bs ys = take_all (length ys) ys (omega arith)
  forward_keeps (r ∷ rs) [] ys = take_all (length ys) ys (omega arith)
  forward_keeps (r ∷ rs) (b ∷ bs) ys =
      let s = subtract_products f b (take (length ys) r) ys in
      let more = ys ++ s ∷ [] in
      let longer : length ys ≤ length more = omega (arith, length_push ys s) in
      sym (take-take (length ys) (length more) (forward f rs bs more) longer) ∙ ap (take (length ys)) (forward_keeps rs bs more) ∙ take_at ys (s ∷ []) (length ys) refl

  forward-next : (r : Row) (rs : Matrix) (b : Float) (bs ys : Row)
      → at (forward f (r ∷ rs) (b ∷ bs) ys) (length ys) ≡ subtract_products f b (take (length ys) r) ys
  unfolding forward
  forward-next r rs b bs ys =
      let s = subtract_products f b (take (length ys) r) ys in
      let more = ys ++ s ∷ [] in
      sym (get_or-take (length more) (forward f rs bs more) (length ys) zero_float (omega (arith, length_push ys s)))
      ∙ ap (λ zs. at zs (length ys)) (forward_keeps rs bs more) ∙ get_or_push ys s zero_float (length ys) refl

  forward-entry : (rs : Matrix) (bs ys : Row) → length rs ≡ length bs → T (forward_in_range f rs bs ys) → (j : ℕ) → j < length rs
      → Substituted f (at bs j) (row rs j) (forward f rs bs ys) (length ys + j)
  unfolding forward forward_in_range
  forward-entry [] bs ys e t j h = absurd (omega arith)
  forward-entry (r ∷ rs) [] ys e t j h = absurd (omega arith)
  forward-entry (r ∷ rs) (b ∷ bs) ys e t zero h =
      let s = subtract_products f b (take (length ys) r) ys in
      let keep = forward_keeps (r ∷ rs) (b ∷ bs) ys in
      let here = and_l (subtractions_in_range f b (take (length ys) r) ys) (forward_in_range f rs bs (ys ++ s ∷ [])) t in
      rw (add-zero (length ys)) (record { result = rw keep (forward-next r rs b bs ys); passed = rw keep here })
  forward-entry (r ∷ rs) (b ∷ bs) ys e t (suc j) h =
      let s = subtract_products f b (take (length ys) r) ys in
      let place : length (ys ++ s ∷ []) + j ≡ length ys + suc j = omega (arith, length_push ys s) in
      let rest = and_r (subtractions_in_range f b (take (length ys) r) ys) (forward_in_range f rs bs (ys ++ s ∷ [])) t in
      rw place at (forward-entry rs bs (ys ++ s ∷ []) (omega arith) rest j (omega arith))

-- with the factors in lu, for the right side bs
module _ (f : Format) (n : ℕ) (lu : Row) (square : Square f n lu) (bs : Row) (right : RightSide f n bs) (t : T (forward_in_range f (matrix n lu) bs [])) where
  abbrev y : Row
  y = forward f (matrix n lu) bs []

  level : length (matrix n lu) ≡ length bs
  level = length-rows_of n n lu ∙ sym right.long

  long : length y ≡ n
  long = forward-length f (matrix n lu) bs [] level ∙ zero-add _ ∙ length-rows_of n n lu

  entries : (i : ℕ) → i < n → Substituted f (at bs i) (row (matrix n lu) i) y i
  entries i h = rw zero-add at (forward-entry f (matrix n lu) bs [] level t i (rw (length-rows_of n n lu) h))

  pub forward-right : RightSide f n y
  forward-right = record {
    long = long;
    finite = finite-all y (λ i h.
        let e = entries i (rw long at h) in
        rw e.result (products-finite f (at bs i) _ _ (finite_at bs right.finite i) e.passed));
    fit = fit_all f y (λ i h. rw (entries i (rw long at h)).result (products-fit f (at bs i) _ _ (fit_at f bs right.fit i)));
  }

  -- the entries left of the diagonal in row i
  abbrev left : ℕ → ℕ → Float
  left i k = at lu (i * n + k)

  close : (i : ℕ) → i < n → Close (2 ^ prec f) i (value (at bs i) *ℤ pos unit) (dot i (left i) (at y)) (magnitudes i (left i) (at y)) (value (at y i) *ℤ pos unit)
  close i h =
      let r = row (matrix n lu) i in
      let few = size-within f n square.size in
      let across : length (take i r) ≡ i = length-take-le i r (rw (row-length n lu i h square.long) (omega arith)) in
      let before : length (take i y) ≡ i = length-take-le i y (rw long (omega arith)) in
      rw (entries i h).result
      (row-close f (at bs i) (take i r) (take i y) i (left i) (at y)
      (fit_at f bs right.fit i) (λ k. fit_at f lu square.fit (i * n + k)) (fit_at f y forward-right.fit) across before
      (λ k below. get_or-take i r k zero_float below ∙ row_at n lu i h k (omega arith)) (λ k below. get_or-take i y k zero_float below)
      (omega arith) (entries i h).passed)

  pub forward-near : (i : ℕ) → i < n
      → (2 ^ prec f - n) * nat_abs (value (at bs i) *ℤ pos unit -ℤ sumℤ n (λ k. lower unit (entry n lu) i k *ℤ value (at y k)))
      ≤ n * sumℕ n (λ k. nat_abs (lower unit (entry n lu) i k) * nat_abs (value (at y k)))
  forward-near i h =
      let v : ℕ → ℤ = λ k. value (at y k) in
      near-sum n (v i) (pos unit) (omega arith) (close i h) (sum-lower termsℤ n (entry n lu) unit i v h) (sum-lower termsℕ n (entry n lu) unit i v h)
