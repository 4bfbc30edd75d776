-- What each call returns and leaves, from what it is given, and what its answer is worth: number is what it returns, and a name
-- with a prime is what a place holds afterwards.
use Rattle.std.specs.Prelude.{◌≡◌, ℕ, List, length}
use Rattle.std.specs.Float.{Format}
use Rattle.element.specs.Refusals.{multiply_number, outcome_number}
use Rattle.element.specs.Matrix.{Row}
use Rattle.element.specs.Multiply.{multiply_outcome, multiply_output}
use Rattle.element.specs.Promises.{ProductsNear}
use Rattle.model.specs.Refusals.{factor_number, solve_number, again_number}
use Rattle.model.specs.Calls.{factor_outcome, factor_lu, factor_order, solve_outcome, solve_lu, solve_order, solve_x, again_outcome, again_x}
use Rattle.model.specs.Promises.{FactorsNear, PivotsBounded, SolveBackwardStable, AgainBackwardStable}
use Rattle.capi.specs.Columns.{factor_column, solve_column, again_column, outcome_column}

pub record SolveCall (f : Format) (n : ℕ) (a b lu : Row) (order : List ℕ) (x : Row) (column number : ℕ) (lu' : Row) (order' : List ℕ) (x' : Row) (column' : ℕ) : Type 0 where
  pub returned : number ≡ outcome_number solve_number (solve_outcome f n a b (length lu) (length order) (length x))
  pub factors : lu' ≡ solve_lu f n a b lu (length order) (length x)
  pub places : order' ≡ solve_order f n a b (length lu) order (length x)
  pub answer : x' ≡ solve_x f n a b (length lu) (length order) x
  pub ended : column' ≡ outcome_column (solve_column n) (solve_outcome f n a b (length lu) (length order) (length x)) column
  pub stable : number ≡ 0 → SolveBackwardStable f n a b lu' order' x'

pub record FactorCall (f : Format) (n : ℕ) (a lu : Row) (order : List ℕ) (column number : ℕ) (lu' : Row) (order' : List ℕ) (column' : ℕ) : Type 0 where
  pub returned : number ≡ outcome_number factor_number (factor_outcome f n a (length lu) (length order))
  pub factors : lu' ≡ factor_lu f n a lu (length order)
  pub places : order' ≡ factor_order f n a (length lu) order
  pub ended : column' ≡ outcome_column factor_column (factor_outcome f n a (length lu) (length order)) column
  pub near : number ≡ 0 → FactorsNear f n a lu' order' × PivotsBounded n lu' order'

pub record AgainCall (f : Format) (n : ℕ) (lu : Row) (order : List ℕ) (b x : Row) (column number : ℕ) (x' : Row) (column' : ℕ) : Type 0 where
  pub returned : number ≡ outcome_number again_number (again_outcome f n lu order b (length x))
  pub answer : x' ≡ again_x f n lu order b x
  pub ended : column' ≡ outcome_column (again_column n) (again_outcome f n lu order b (length x)) column
  pub stable : number ≡ 0 → AgainBackwardStable f n lu order b x'

pub record MultiplyCall (f : Format) (n : ℕ) (a x y : Row) (number : ℕ) (y' : Row) : Type 0 where
  pub returned : number ≡ outcome_number multiply_number (multiply_outcome f n a x (length y))
  pub sums : y' ≡ multiply_output f n a x y
  pub near : number ≡ 0 → ProductsNear f n a x y'
