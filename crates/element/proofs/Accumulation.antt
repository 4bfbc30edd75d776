-- A fact about t products, their exact sum P, the sum W of their magnitudes and the value s so far, kept from product to product of a run over two rows.
use Rattle.std.proofs.Common.{◌≡◌, ℕ, suc, ◌+◌, ◌*◌, ◌<◌, ◌≤◌, Bool, T, [], ◌∷◌, length, ℤ, pos, ◌+ℤ◌, ◌*ℤ◌, nat_abs, sym, ap, ◌∙◌, add-zero, add_assoc, arith}
use lib.IntN.{+ℤ_idr, +ℤ_assoc}
use lib.Ieee.{Float, Format, fits}
use lib.Ieee.Fits.{and_l, and_r}
use Rattle.exact.specs.Value.{value, magnitude}
use Rattle.exact.proofs.Integer.{nat_abs-*ℤ}
use Rattle.exact.proofs.Sum.{additiveℕ, additiveℤ, sum-none, sum_front}
use Rattle.element.specs.Matrix.{Row, at}
use Rattle.element.specs.Products.{run, run_passes}
use Rattle.element.specs.Promises.{all_fit, dot, magnitudes}

-- sums over two rows, by their first entries
pub dot_front : (x y : Float) (xs ys : Row) → dot (suc (length xs)) (at (x ∷ xs)) (at (y ∷ ys)) ≡ value x *ℤ value y +ℤ dot (length xs) (at xs) (at ys)
dot_front x y xs ys = sum_front additiveℤ (length xs) (λ k. value (at (x ∷ xs) k) *ℤ value (at (y ∷ ys) k))

pub magnitudes_front : (x y : Float) (xs ys : Row) → magnitudes (suc (length xs)) (at (x ∷ xs)) (at (y ∷ ys)) ≡ nat_abs (value x *ℤ value y) + magnitudes (length xs) (at xs) (at ys)
magnitudes_front x y xs ys =
    sum_front additiveℕ (length xs) (λ k. magnitude (at (x ∷ xs) k) * magnitude (at (y ∷ ys) k))
    ∙ ap (λ z. z + magnitudes (length xs) (at xs) (at ys)) (sym (nat_abs-*ℤ (value x) (value y)))

module _ (f : Format) (test : Float → Float → Float → Bool) (step : Float → Float → Float → Float) (limit : ℕ) (K : ℕ → ℤ → ℕ → Float → Type 0)
    (keep : (t : ℕ) (P : ℤ) (W : ℕ) (s x y : Float) → t < limit → T (fits f x) → T (fits f y) → T (test s x y) → K t P W s
    → K (t + 1) (P +ℤ value x *ℤ value y) (W + nat_abs (value x *ℤ value y)) (step s x y)) where
  pub run_keeps : (s : Float) (xs ys : Row) (t : ℕ) (P : ℤ) (W : ℕ) → T (all_fit f xs) → T (all_fit f ys) → length xs ≡ length ys → t + length xs ≤ limit
      → T (run_passes test step s xs ys) → K t P W s
      → K (t + length xs) (P +ℤ dot (length xs) (at xs) (at ys)) (W + magnitudes (length xs) (at xs) (at ys)) (run step s xs ys)
  unfolding run run_passes all_fit
  run_keeps s [] ys t P W q r e few range c = rw (sum-none (pos 0) ◌+ℤ◌, sum-none 0 ◌+◌, add-zero t, +ℤ_idr P, add-zero W) c
  run_keeps s (x ∷ xs) [] t P W q r e few range c = absurd (omega arith)
  run_keeps s (x ∷ xs) (y ∷ ys) t P W q r e few range c =
      let left = run_passes test step (step s x y) xs ys in
      let Q = value x *ℤ value y in
      let same : length xs ≡ length ys = omega arith in
      let below : t < limit = omega arith in
      let fewer : t + 1 + length xs ≤ limit = omega arith in
      let count : t + 1 + length xs ≡ t + suc (length xs) = omega arith in
      let here = keep t P W s x y below (and_l (fits f x) (all_fit f xs) q) (and_l (fits f y) (all_fit f ys) r) (and_l (test s x y) left range) c in
      let more = run_keeps (step s x y) xs ys (t + 1) (P +ℤ Q) (W + nat_abs Q) (and_r (fits f x) (all_fit f xs) q) (and_r (fits f y) (all_fit f ys) r) same fewer (and_r (test s x y) left range) here in
      let sums : P +ℤ Q +ℤ dot (length xs) (at xs) (at ys) ≡ P +ℤ dot (suc (length xs)) (at (x ∷ xs)) (at (y ∷ ys)) =
      +ℤ_assoc P Q (dot (length xs) (at xs) (at ys)) ∙ ap (λ z. P +ℤ z) (sym (dot_front x y xs ys)) in
      let sizes : W + nat_abs Q + magnitudes (length xs) (at xs) (at ys) ≡ W + magnitudes (suc (length xs)) (at (x ∷ xs)) (at (y ∷ ys)) =
      add_assoc W (nat_abs Q) (magnitudes (length xs) (at xs) (at ys)) ∙ ap (λ z. W + z) (sym (magnitudes_front x y xs ys)) in
      rw (← sums, ← sizes, ← count) more
