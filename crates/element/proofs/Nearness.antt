-- The product of a matrix and a vector is near the exact one.
use Rattle.std.proofs.Common.{◌≡◌, ℕ, ◌+◌, ◌*◌, ◌^◌, ◌<◌, ◌≤◌, cond, T, length, take, drop, pos, ◌+ℤ◌, ◌*ℤ◌, is_ok, IfOk, Ok, Err, Result, sym, ap, ◌∙◌, subst, arith}
use lib.Ieee.{Format, prec}
use Rattle.exact.specs.Value.{value, magnitude}
use Rattle.exact.proofs.Sum.{sum_same}
use Rattle.element.specs.declared.refusal.MultiplyRefusal.{MultiplyRefusal}
use Rattle.element.specs.Matrix.{Row, at, matrix}
use Rattle.element.specs.Products.{sum_products, sum_in_range, sum_rows, rows_in_range}
use Rattle.element.specs.Multiply.{multiply_outcome, multiply_output}
use Rattle.element.specs.Promises.{all_fit, dot, magnitudes, ProductsNear}
use Rattle.element.proofs.Entries.{row-rows_of, length-rows_of, at_row, length-row, fit-take, fit-drop, at-sum_rows, row_in_range}
use Rattle.element.proofs.Outcome.{answered}
use Rattle.element.proofs.Subtraction.{size_below}
use Rattle.element.proofs.Summation.{sum_near}

pub products-near : (f : Format) (n : ℕ) (a x : Row) → n ≤ 128 → length a ≡ n * n → length x ≡ n → T (all_fit f a) → T (all_fit f x) → T (rows_in_range f (matrix n a) x)
    → ProductsNear f n a x (sum_rows f (matrix n a) x)
products-near f n a x small la lx fit-a fit-x range i h =
    let r = take n (drop (i * n) a) in
    let len : length r ≡ n = length-row n a i la h in
    let within : i < length (matrix n a) = rw (length-rows_of n n a) h in
    let row_is = row-rows_of n n a i h in
    let ok : T (sum_in_range f r x) = subst (λ z. T (sum_in_range f z x)) row_is (row_in_range f (matrix n a) x i within range) in
    let few : length r ≤ 2 ^ prec f = omega (arith, size_below f n small) in
    let near = sum_near f r x (fit-take f n (drop (i * n) a) (fit-drop f (i * n) a fit-a)) fit-x (len ∙ sym lx) few ok in
    let sum_is : at (sum_rows f (matrix n a) x) i ≡ sum_products f r x = at-sum_rows f (matrix n a) x i within ∙ ap (λ z. sum_products f z x) row_is in
    let dots : dot n (at r) (at x) ≡ dot n (λ j. at a (i * n + j)) (at x) = sum_same (pos 0) ◌+ℤ◌ n (λ j b. ap (λ z. value z *ℤ value (at x j)) (at_row n a i j b)) in
    let sizes : magnitudes n (at r) (at x) ≡ magnitudes n (λ j. at a (i * n + j)) (at x) = sum_same 0 ◌+◌ n (λ j b. ap (λ z. magnitude z * magnitude (at x j)) (at_row n a i j b)) in
    rw (sum_is, ← dots, ← sizes) (rw len at near)

-- what an answer of `multiply` is worth: o is its outcome, y what its output holds, and y₀ what that held before
pub multiply_near : (f : Format) (n : ℕ) (a x y₀ y : Row) (o : Result (Unit {0}) MultiplyRefusal) → T (all_fit f a) → T (all_fit f x)
    → o ≡ multiply_outcome f n a x (length y₀) → y ≡ multiply_output f n a x y₀ → IfOk o (λ _. ProductsNear f n a x y)
multiply_near f n a x y₀ y (Err e) fit-a fit-x p q = tt
multiply_near f n a x y₀ y (Ok u) fit-a fit-x p q =
    let w = answered f n a x (length y₀) (sym p) in
    let done : y ≡ sum_rows f (matrix n a) x = q ∙ ap (λ r. cond (is_ok r) (sum_rows f (matrix n a) x) y₀) (sym p) in
    subst (ProductsNear f n a x) (sym done) (products-near f n a x w.size w.matrix-long w.vector_long fit-a fit-x w.range)
