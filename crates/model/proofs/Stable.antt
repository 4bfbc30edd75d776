-- The promise of `solve`, from that of the factors.
use Rattle.std.proofs.Common.{◌≡◌, ℕ, ◌<◌, T, length, nat_abs, Ok, subst}
use lib.Ieee.{Format}
use Rattle.element.specs.Matrix.{Row, matrix}
use Rattle.model.specs.Factor.{factored}
use Rattle.model.specs.Solve.{solution, solution_in_range}
use Rattle.model.specs.Calls.{flat}
use Rattle.model.specs.Promises.{entry, place, Square, FactorTheorem, SolveBackwardStable, SolveTheorem}
use Rattle.model.proofs.Slice.{SquareRows, matrix-flat, flat-square}
use Rattle.model.proofs.Nearby.{solution-finite, factored-row}

-- what a factoring that answered leaves: a square matrix of finite values of the format, and an order as long
abbrev pub FactorsSquare : Type 0
FactorsSquare =
    (f : Format) (n : ℕ) (a : Row) → Square f n a →
    let s = factored f (matrix n a) in
    s.outcome ≡ Ok tt → SquareRows f n s.rows × (length s.order ≡ n)

pub solve_from-factors : FactorTheorem → FactorsSquare → SolveTheorem
solve_from-factors factors shape f n a b square right ok t =
    let s = factored f (matrix n a) in
    let lu = flat s.rows in
    let (near, bounded) = factors f n a square ok in
    let (rows, places) = shape f n a square ok in
    let sq = flat-square rows square.size in
    let pivots : (i : ℕ) → i < n → 0 < nat_abs (entry n lu i i) = λ i h. (bounded i h).1 in
    subst (λ m. T (solution_in_range f m s.order b) → SolveBackwardStable f n a b lu s.order (solution f m s.order b)) (matrix-flat rows)
    (λ passed. record {
      finite = solution-finite f n lu s.order b sq right places pivots passed;
      nearby = λ i h. factored-row f n lu s.order b sq right places pivots passed i h (entry n a (place s.order i)) (λ j. near i j h);
      factors = near;
      pivots = bounded;
    }) t
