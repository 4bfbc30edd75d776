-- A row of products summed from +0: near the exact sum, by as many parts in 2^p as there are products.
use Rattle.std.proofs.Common.{◌≡◌, ℕ, suc, ◌+◌, ◌-◌, ◌*◌, ◌^◌, ◌<◌, ◌≤◌, T, [], ◌∷◌, length, ℤ, pos, ◌+ℤ◌, ◌-ℤ◌, ◌*ℤ◌, nat_abs, sym, ap, ◌∙◌, subst, zero-le, mul-zero, arith, lit≤}
use lib.Ieee.{Float, Format, prec, fits, mul}
use lib.Ieee.Fits.{and_l, and_r, add-fits, mul-fits}
use lib.Ieee.Scale.{finite}
use Rattle.exact.specs.Value.{unit, value}
use Rattle.exact.specs.Range.{product_in_range}
use Rattle.exact.proofs.Integer.{+ℤ-*ℤ, sub-*ℤ}
use Rattle.exact.proofs.Laws.{product_law, sum-law}
use Rattle.exact.proofs.Sum.{sum-none}
use Rattle.exact.proofs.Zero.{zero_plus}
use Rattle.analysis.proofs.Residual.{scaled_error}
use Rattle.analysis.proofs.Summation.{Summed, summed_first, summed_step}
use Rattle.element.specs.Matrix.{Row, at, zero_float}
use Rattle.element.specs.Products.{run, run_passes, add_product, addition_in_range, sum_products, sum_in_range}
use Rattle.element.specs.Promises.{all_fit, dot, magnitudes}
use Rattle.element.proofs.Accumulation.{run_keeps, dot_front, magnitudes_front}

-- the error of a sum, times 1 in units
sum-scaled : (N U : ℕ) (s q s' : ℤ) → N * nat_abs (s +ℤ q -ℤ s') ≤ nat_abs s' → N * nat_abs (s *ℤ pos U +ℤ q *ℤ pos U -ℤ s' *ℤ pos U) ≤ nat_abs (s' *ℤ pos U)
sum-scaled N U s q s' h =
    let each : (s +ℤ q -ℤ s') *ℤ pos U ≡ s *ℤ pos U +ℤ q *ℤ pos U -ℤ s' *ℤ pos U = sub-*ℤ (s +ℤ q) s' (pos U) ∙ ap (λ z. z -ℤ s' *ℤ pos U) (+ℤ-*ℤ s q (pos U)) in
    rw each at (scaled_error N U (s +ℤ q -ℤ s') s' h)

-- with t products summed, at least one
abbrev Partial : Format → ℕ → ℤ → ℕ → Float → Type 0
Partial f t P W s = (1 ≤ t) × T (fits f s) × Summed (2 ^ prec f) t P W (value s *ℤ pos unit)

partial_step : (f : Format) (t : ℕ) (P : ℤ) (W : ℕ) (s x y : Float) → t < 2 ^ prec f → T (fits f x) → T (fits f y) → T (addition_in_range f s x y) → Partial f t P W s
    → Partial f (t + 1) (P +ℤ value x *ℤ value y) (W + nat_abs (value x *ℤ value y)) (add_product f s x y)
partial_step f t P W s x y below fit-x fit-y test k =
    let z = mul f x y in
    let s' = add_product f s x y in
    let product = (product_law f x y fit-x fit-y (and_l (product_in_range f x y) (finite s') test)).of_exact in
    let sum = (sum-law f s z k.1 (mul-fits f x y) (and_r (product_in_range f x y) (finite s') test)).of_computed in
    (omega arith, add-fits f s z, summed_step (value x *ℤ value y) (value z *ℤ pos unit) (value s' *ℤ pos unit) k.0 below k.2 product (sum-scaled (2 ^ prec f) unit (value s) (value z) (value s') sum))

-- the first product is added to +0, which is exact
partial_first : (f : Format) (x y : Float) → T (fits f x) → T (fits f y) → T (addition_in_range f zero_float x y)
    → Partial f 1 (value x *ℤ value y) (nat_abs (value x *ℤ value y)) (add_product f zero_float x y)
partial_first f x y fit-x fit-y test =
    let z = mul f x y in
    let s' = add_product f zero_float x y in
    let product = (product_law f x y fit-x fit-y (and_l (product_in_range f x y) (finite s') test)).of_exact in
    let same : value s' ≡ value z = zero_plus f z (mul-fits f x y) (and_r (product_in_range f x y) (finite s') test) in (
      lit≤ tt,
      add-fits f zero_float z,
      subst (λ v. Summed (2 ^ prec f) 1 (value x *ℤ value y) (nat_abs (value x *ℤ value y)) (v *ℤ pos unit)) (sym same) (summed_first (2 ^ prec f) (value x *ℤ value y) (value z *ℤ pos unit) product),
    )

pub sum_near : (f : Format) (xs ys : Row) → T (all_fit f xs) → T (all_fit f ys) → length xs ≡ length ys → length xs ≤ 2 ^ prec f → T (sum_in_range f xs ys)
    → (2 ^ prec f - length xs) * nat_abs (dot (length xs) (at xs) (at ys) -ℤ value (sum_products f xs ys) *ℤ pos unit) ≤ length xs * magnitudes (length xs) (at xs) (at ys)
unfolding run run_passes all_fit
sum_near f [] ys q r e few range = rw (sum-none (pos 0) ◌+ℤ◌, mul-zero (2 ^ prec f - 0)) zero-le
sum_near f (x ∷ xs) [] q r e few range = absurd (omega arith)
sum_near f (x ∷ xs) (y ∷ ys) q r e few range =
    let left = run_passes (addition_in_range f) (add_product f) (add_product f zero_float x y) xs ys in
    let same : length xs ≡ length ys = omega arith in
    let Q = value x *ℤ value y in
    let fewer : 1 + length xs ≤ 2 ^ prec f = omega arith in
    let first = partial_first f x y (and_l (fits f x) (all_fit f xs) q) (and_l (fits f y) (all_fit f ys) r) (and_l (addition_in_range f zero_float x y) left range) in
    let all = (run_keeps f (addition_in_range f) (add_product f) (2 ^ prec f) (Partial f) (partial_step f) (add_product f zero_float x y) xs ys 1 Q (nat_abs Q)
    (and_r (fits f x) (all_fit f xs) q) (and_r (fits f y) (all_fit f ys) r) same fewer (and_r (addition_in_range f zero_float x y) left range) first).2 in
    let one : suc (length xs) ≡ 1 + length xs = omega arith in
    rw (dot_front x y xs ys, magnitudes_front x y xs ys, one) all.near
