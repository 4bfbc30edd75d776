-- The calls `factor`, `solve` and `again` as functions of their arguments: which refusal, and what each output holds afterwards.
-- Matrices lie row by row; a length that a call is given for an output is that of its slice.
use Rattle.std.specs.Prelude.{ℕ, ◌+◌, ◌*◌, Bool, true, false, cond, not, ◌&&◌, ◌||◌, List, [], ◌∷◌, ◌++◌, length, is_ok, Ok, Err, Result, ◌==◌, nat_lt}
use Rattle.std.specs.Float.{Format}
use Rattle.exact.specs.Value.{is_zero}
use Rattle.element.specs.declared.refusal.InputRefusal.{InputRefusal}
use Rattle.element.specs.Matrix.{Row, Matrix, at, matrix, all_finite}
use Rattle.element.specs.Multiply.{inputs, size_taken}
use Rattle.model.specs.declared.FactorRefusal.{FactorRefusal}
use Rattle.model.specs.declared.FactorRefusal.TheVariants as factoring
use Rattle.model.specs.declared.SolveRefusal.{SolveRefusal}
use Rattle.model.specs.declared.SolveRefusal.TheVariants as solving
use Rattle.model.specs.declared.AgainRefusal.{AgainRefusal}
use Rattle.model.specs.declared.AgainRefusal.TheVariants as again
use Rattle.model.specs.Factor.{factored}
use Rattle.model.specs.Solve.{solution, solution_in_range}

unfoldable pub flat : Matrix → Row
flat [] = []
flat (r ∷ rs) = r ++ flat rs

-- ---- factor: a is the matrix; l and o are the lengths of the factors and the order
abbrev pub factor_inputs : ℕ → Row → ℕ → ℕ → Result (Unit {0}) InputRefusal
factor_inputs n a l o = inputs (size_taken n) (length a == n * n && l == n * n && o == n) (all_finite a)

abbrev pub factor_outcome : Format → ℕ → Row → ℕ → ℕ → Result (Unit {0}) FactorRefusal
factor_outcome f n a l o = elim (factor_inputs n a l o) [ Ok u ↦ (factored f (matrix n a)).outcome | Err e ↦ Err (factoring.Input e) ]

abbrev pub factor_lu : Format → ℕ → Row → Row → ℕ → Row
factor_lu f n a lu o = cond (is_ok (factor_inputs n a (length lu) o)) (flat (factored f (matrix n a)).rows) lu

abbrev pub factor_order : Format → ℕ → Row → ℕ → List ℕ → List ℕ
factor_order f n a l order = cond (is_ok (factor_inputs n a l (length order))) (factored f (matrix n a)).order order

-- ---- solve: a is the matrix, b the right side; l, o and m are the lengths of the factors, the order and the answer
abbrev pub solve_inputs : ℕ → Row → Row → ℕ → ℕ → ℕ → Result (Unit {0}) InputRefusal
solve_inputs n a b l o m =
    inputs (size_taken n) (length a == n * n && length b == n && l == n * n && o == n && m == n) (all_finite a && all_finite b)

abbrev pub solve_outcome : Format → ℕ → Row → Row → ℕ → ℕ → ℕ → Result (Unit {0}) SolveRefusal
solve_outcome f n a b l o m =
    let s = factored f (matrix n a) in
    elim (solve_inputs n a b l o m) [
      | Ok u ↦ elim s.outcome [ Ok v ↦ cond (solution_in_range f s.rows s.order b) (Ok tt) (Err solving.Range) | Err e ↦ Err (solving.Factoring e) ]
      | Err e ↦ Err (solving.Factoring (factoring.Input e))
    ]

abbrev pub solve_lu : Format → ℕ → Row → Row → Row → ℕ → ℕ → Row
solve_lu f n a b lu o m = cond (is_ok (solve_inputs n a b (length lu) o m)) (flat (factored f (matrix n a)).rows) lu

abbrev pub solve_order : Format → ℕ → Row → Row → ℕ → List ℕ → ℕ → List ℕ
solve_order f n a b l order m = cond (is_ok (solve_inputs n a b l (length order) m)) (factored f (matrix n a)).order order

abbrev pub solve_x : Format → ℕ → Row → Row → ℕ → ℕ → Row → Row
solve_x f n a b l o x =
    let s = factored f (matrix n a) in
    cond (is_ok (solve_outcome f n a b l o (length x))) (solution f s.rows s.order b) x

-- ---- again: with factors and an order that are there already
unfoldable pub among : ℕ → List ℕ → Bool
among i [] = false
among i (j ∷ js) = i == j || among i js

-- each of 0 to n - 1 at most once, and no other
unfoldable pub once_each : ℕ → List ℕ → Bool
once_each n [] = true
once_each n (i ∷ is) = nat_lt i n && not (among i is) && once_each n is

-- no entry on the diagonal is zero; the rows are those from place k on
unfoldable pub no_zero_pivot : ℕ → Matrix → Bool
no_zero_pivot k [] = true
no_zero_pivot k (r ∷ rs) = not (is_zero (at r k)) && no_zero_pivot (k + 1) rs

abbrev pub again_inputs : ℕ → Row → List ℕ → Row → ℕ → Result (Unit {0}) InputRefusal
again_inputs n lu order b m = inputs (size_taken n) (length lu == n * n && length order == n && length b == n && m == n) (all_finite b)

abbrev pub factors_sound : ℕ → Row → List ℕ → Bool
factors_sound n lu order = once_each n order && all_finite lu && no_zero_pivot 0 (matrix n lu)

abbrev pub again_outcome : Format → ℕ → Row → List ℕ → Row → ℕ → Result (Unit {0}) AgainRefusal
again_outcome f n lu order b m =
    elim (again_inputs n lu order b m) [
      | Ok u ↦ cond (factors_sound n lu order) (cond (solution_in_range f (matrix n lu) order b) (Ok tt) (Err again.Range)) (Err again.Factors)
      | Err e ↦ Err (again.Input e)
    ]

abbrev pub again_x : Format → ℕ → Row → List ℕ → Row → Row → Row
again_x f n lu order b x = cond (is_ok (again_outcome f n lu order b (length x))) (solution f (matrix n lu) order b) x
