-- What the two triangular solves share: a row of products subtracted from an entry of the right side, and the division by the pivot.
use Rattle.std.proofs.Common.{◌≡◌, ℕ, ◌+◌, ◌*◌, ◌^◌, ◌<◌, ◌≤◌, T, length, ℤ, pos, ◌+ℤ◌, ◌*ℤ◌, sym, ap, ◌∙◌, ap₂, zero-add, arith}
use lib.IntN.{+ℤ_idl}
use lib.Ieee.{Float, Format, prec, fits}
use Rattle.exact.specs.Value.{unit, value, magnitude}
use Rattle.exact.proofs.Sum.{sum_same}
use Rattle.analysis.proofs.Residual.{Close, close_start}
use Rattle.element.specs.Matrix.{Row, at}
use Rattle.element.specs.Products.{subtract_products, subtractions_in_range}
use Rattle.element.specs.Promises.{dot, magnitudes}
use Rattle.element.proofs.Subtraction.{products-close}
use Rattle.model.proofs.Slice.{fit_all}

-- a and v are the entries of the two rows
pub row-close : (f : Format) (s : Float) (xs ys : Row) (t : ℕ) (a v : ℕ → Float) → T (fits f s) → ((k : ℕ) → T (fits f (a k))) → ((k : ℕ) → T (fits f (v k)))
    → length xs ≡ t → length ys ≡ t → ((k : ℕ) → k < t → at xs k ≡ a k) → ((k : ℕ) → k < t → at ys k ≡ v k)
    → t ≤ 2 ^ prec f → T (subtractions_in_range f s xs ys)
    → Close (2 ^ prec f) t (value s *ℤ pos unit) (dot t a v) (magnitudes t a v) (value (subtract_products f s xs ys) *ℤ pos unit)
row-close f s xs ys t a v p q r lx ly left right few passed =
    let product : Float → Float → ℤ = λ c d. value c *ℤ value d in
    let size : Float → Float → ℕ = λ c d. magnitude c * magnitude d in
    let total : dot (length xs) (at xs) (at ys) ≡ dot t a v =
    ap (λ k. dot k (at xs) (at ys)) lx ∙ sum_same (pos 0) ◌+ℤ◌ t (λ k below. ap₂ product (left k below) (right k below)) in
    let weights : magnitudes (length xs) (at xs) (at ys) ≡ magnitudes t a v =
    ap (λ k. magnitudes k (at xs) (at ys)) lx ∙ sum_same 0 ◌+◌ t (λ k below. ap₂ size (left k below) (right k below)) in
    let fit-left = fit_all f xs (λ k below. rw (left k (rw lx at below)) (q k)) in
    let fit-right = fit_all f ys (λ k below. rw (right k (rw ly at below)) (r k)) in
    let all = (products-close f s xs ys 0 (value s *ℤ pos unit) (pos 0) 0 p fit-left fit-right (lx ∙ sym ly) (omega arith) passed (close_start (2 ^ prec f) (value s *ℤ pos unit))).1 in
    rw (total, weights, lx, zero-add t, zero-add (magnitudes t a v), +ℤ_idl (dot t a v)) at all
