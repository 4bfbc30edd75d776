-- `again`, with the factors and the order of a factoring that answered, beside `solve` with the matrix that was factored.
use Rattle.std.specs.Prelude.{◌≡◌, ℕ, ◌*◌, length, Ok}
use Rattle.std.specs.Float.{Format}
use Rattle.element.specs.Refusals.{outcome_number}
use Rattle.element.specs.Matrix.{Row, matrix}
use Rattle.model.specs.Refusals.{solve_number, again_number}
use Rattle.model.specs.Factor.{factored}
use Rattle.model.specs.Calls.{flat, solve_outcome, solve_x, again_outcome, again_x}
use Rattle.model.specs.Promises.{Square}

-- The same outcome and, digit for digit, the same answer, for every right side b and whatever x held before.
abbrev pub AgainAsSolve : Type 0
AgainAsSolve =
    (f : Format) (n : ℕ) (a b x : Row) → Square f n a →
    let s = factored f (matrix n a) in
    let lu = flat s.rows in
    s.outcome ≡ Ok tt →
    (outcome_number again_number (again_outcome f n lu s.order b (length x)) ≡ outcome_number solve_number (solve_outcome f n a b (n * n) n (length x)))
    × (again_x f n lu s.order b x ≡ solve_x f n a b (n * n) n x)
