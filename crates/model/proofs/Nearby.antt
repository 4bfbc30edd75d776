-- The two solves together: the answer is finite and solves a nearby system exactly, with factors from anywhere and with those of a factoring.
use Rattle.std.proofs.Common.{◌≡◌, ℕ, ◌-◌, ◌*◌, ◌^◌, ◌<◌, ◌≤◌, T, List, [], length, ℤ, pos, ◌-ℤ◌, ◌*ℤ◌, nat_abs, ◌∙◌, mul-one, arith, pow_pos}
use lib.Ieee.{Format, prec}
use lib.Ieee.Fits.{and_l, and_r}
use Rattle.std.proofs.lemmas.List.{get_or-map, length-map}
use Rattle.exact.specs.Sum.{sumℕ, sumℤ}
use Rattle.exact.specs.Value.{unit, value}
use Rattle.analysis.specs.Factors.{lower, upper, weight}
use Rattle.analysis.specs.Nearby.{NearbyRow}
use Rattle.analysis.proofs.Nearby.{nearby-row}
use Rattle.analysis.proofs.Solve.{residual_bound, again_bound}
use Rattle.element.specs.Matrix.{Row, zero_float, at, matrix, all_finite}
use Rattle.model.specs.Solve.{forward, forward_in_range, backward_in_range, permuted, solution, solution_in_range}
use Rattle.model.specs.Promises.{entry, place, factor_product, Square, RightSide}
use Rattle.model.proofs.Slice.{finite_at, finite-all, fit_at, fit_all, size-within}
use Rattle.model.proofs.Forward.{forward-right, forward-near}
use Rattle.model.proofs.Backward.{backward-finite, backward-near}

-- with the factors in lu, whose pivots are not zero
module _ (f : Format) (n : ℕ) (lu : Row) (order : List ℕ) (b : Row) (square : Square f n lu) (given : RightSide f n b) (places : length order ≡ n)
    (pivots : (i : ℕ) → i < n → 0 < nat_abs (entry n lu i i)) (t : T (solution_in_range f (matrix n lu) order b)) where
  abbrev N : ℕ
  N = 2 ^ prec f

  abbrev bs : Row
  bs = permuted b order

  abbrev y : Row
  y = forward f (matrix n lu) bs []

  abbrev x : Row
  x = solution f (matrix n lu) order b

  there : T (forward_in_range f (matrix n lu) bs [])
  there = and_l (forward_in_range f (matrix n lu) bs []) (backward_in_range f 0 (matrix n lu) y) t

  back : T (backward_in_range f 0 (matrix n lu) y)
  back = and_r (forward_in_range f (matrix n lu) bs []) (backward_in_range f 0 (matrix n lu) y) t

  bs-long : length bs ≡ n
  bs-long = length-map order (at b) ∙ places

  bs_at : (i : ℕ) → i < n → at bs i ≡ at b (place order i)
  bs_at i h = get_or-map (at b) order i 0 zero_float (rw places h)

  right : RightSide f n bs
  right = record {
    long = bs-long;
    finite = finite-all bs (λ i h. rw (bs_at i (rw bs-long at h)) (finite_at b given.finite (place order i)));
    fit = fit_all f bs (λ i h. rw (bs_at i (rw bs-long at h)) (fit_at f b given.fit (place order i)));
  }

  middle : RightSide f n y
  middle = forward-right f n lu square bs right there

  pub solution-finite : T (all_finite x)
  solution-finite = backward-finite f n lu square pivots y middle back

  module _ (i : ℕ) (h : i < n) where
    -- row i of the first factor, and the second factor
    abbrev l : ℕ → ℤ
    l = lower unit (entry n lu) i

    abbrev u : ℕ → ℕ → ℤ
    u = upper (entry n lu)

    abbrev right_side : ℤ
    right_side = value (at b (place order i))

    solved : (N - n) * nat_abs (right_side *ℤ pos unit -ℤ sumℤ n (λ k. l k *ℤ value (at y k))) ≤ n * sumℕ n (λ k. nat_abs (l k) * nat_abs (value (at y k)))
    solved = rw (bs_at i h) at (forward-near f n lu square bs right there i h)

    -- the row of the exact product of the factors
    pub again_row : NearbyRow N (2 * n) 1 n (factor_product n lu i) (right_side *ℤ pos unit *ℤ pos unit) (weight unit n (entry n lu) i) (λ j. value (at x j))
    again_row =
        let few = size-within f n square.size in
        let bound = again_bound N n unit l u right_side (λ j. value (at x j)) (λ k. value (at y k)) solved (backward-near f n lu square pivots y middle back) (omega arith) in
        nearby-row (omega arith) (omega arith) (rw mul-one bound)

    -- the row a that was factored
    pub factored-row : (a : ℕ → ℤ)
        → ((j : ℕ) → j < n → (N - n) * nat_abs (a j *ℤ pos unit -ℤ factor_product n lu i j) ≤ n * weight unit n (entry n lu) i j)
        → NearbyRow N (3 * n) unit n a (right_side *ℤ pos unit) (weight unit n (entry n lu) i) (λ j. value (at x j))
    factored-row a near =
        let few = size-within f n square.size in
        let bound = residual_bound N n unit l u right_side (λ j. value (at x j)) (λ k. value (at y k)) solved (backward-near f n lu square pivots y middle back) a near few in
        nearby-row few (pow_pos 1074) bound
