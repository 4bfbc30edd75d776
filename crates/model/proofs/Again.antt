-- The promise of `again`: factors from anywhere, of which no pivot is zero.
use Rattle.std.proofs.Common.{◌≡◌, ℕ, zero, suc, ◌+◌, ◌*◌, ◌<◌, false, not, ◌&&◌, T, [], ◌∷◌, length, nat_abs, add-zero, zero-add, arith}
use lib.Ieee.Bits.{is_true}
use lib.Ieee.Fits.{and_i, and_l, and_r}
use Rattle.std.proofs.lemmas.Bool.{not-true}
use Rattle.exact.specs.Value.{is_zero}
use Rattle.exact.proofs.Magnitude.{magnitude-pos}
use Rattle.element.specs.Matrix.{Matrix, at, row, matrix, all_finite}
use Rattle.model.specs.Calls.{once_each, no_zero_pivot}
use Rattle.model.specs.Promises.{entry, AgainTheorem}
use Rattle.element.proofs.Entries.{length-rows_of, row_at}
use Rattle.model.proofs.Slice.{finite_at}
use Rattle.model.proofs.Nearby.{solution-finite, again_row}

-- ---- the diagonal, whose entry in row i stands in column k + i
no_zero_at : (k : ℕ) (m : Matrix) → T (no_zero_pivot k m) → (i : ℕ) → i < length m → is_zero (at (row m i) (k + i)) ≡ false
unfolding no_zero_pivot
no_zero_at k [] t i h = absurd (omega arith)
no_zero_at k (r ∷ rs) t zero h =
    rw (add-zero k) (not-true (is_zero (at r k)) (is_true _ (and_l (not (is_zero (at r k))) (no_zero_pivot (k + 1) rs) t)))
no_zero_at k (r ∷ rs) t (suc i) h =
    let column : k + 1 + i ≡ k + suc i = omega arith in
    rw column at (no_zero_at (k + 1) rs (and_r (not (is_zero (at r k))) (no_zero_pivot (k + 1) rs) t) i (omega arith))

pub no_zero_from : (k : ℕ) (m : Matrix) → ((i : ℕ) → i < length m → is_zero (at (row m i) (k + i)) ≡ false) → T (no_zero_pivot k m)
unfolding no_zero_pivot
no_zero_from k [] each = tt
no_zero_from k (r ∷ rs) each =
    let here : is_zero (at r k) ≡ false = rw (add-zero k) at (each 0 (omega arith)) in
    let column : (i : ℕ) → k + 1 + i ≡ k + suc i = λ i. omega arith in
    and_i (not (is_zero (at r k))) (no_zero_pivot (k + 1) rs) (rw here tt) (no_zero_from (k + 1) rs (λ i below. rw (column i) (each (suc i) (omega arith))))

pub again_theorem : AgainTheorem
again_theorem f n lu order b square right places sound t =
    let marks = once_each n order && all_finite lu in
    let nonzero = and_r marks (no_zero_pivot 0 (matrix n lu)) sound in
    let pivots : (i : ℕ) → i < n → 0 < nat_abs (entry n lu i i) = λ i h.
    let some = no_zero_at 0 (matrix n lu) nonzero i (rw (length-rows_of n n lu) h) in
    magnitude-pos (at lu (i * n + i)) (finite_at lu square.finite (i * n + i)) (rw (zero-add i, row_at n lu i h i h) at some) in
    record {
      finite = solution-finite f n lu order b square right places pivots t;
      nearby = again_row f n lu order b square right places pivots t;
    }
