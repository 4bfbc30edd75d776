-- What is left of a factoring, and what an answer that follows it is worth. v is what an element is as a float.
use Rattle.std.proofs.Common.{◌≡◌, ℕ, ◌*◌, ◌<◌, Bool, true, cond, ◌&&◌, T, eqb, List, map, length, get_or, is_ok, Ok, Result, sym, ap, ◌∙◌, subst, arith}
use lib.Ieee.{Float, Format}
use lib.Ieee.Fits.{and_l, and_r}
use Rattle.std.proofs.lemmas.List.{length-map}
use Rattle.std.proofs.lemmas.Bool.Decides.{nat_tests}
use Rattle.element.specs.Matrix.{Row, matrix, all_finite}
use Rattle.element.specs.Multiply.{inputs, size_taken}
use Rattle.element.specs.Promises.{all_fit}
use Rattle.element.proofs.Entries.{length-rows_of}
use Rattle.element.proofs.Outcome.{inputs_ok}
use Rattle.model.specs.declared.FactorRefusal.{FactorRefusal}
use Rattle.model.specs.Factor.{Factoring, factored}
use Rattle.model.specs.Solve.{solution, solution_in_range}
use Rattle.model.specs.Calls.{flat, solve_inputs, solve_lu}
use Rattle.model.specs.Promises.{SolveBackwardStable}
use Rattle.model.proofs.Shape.{factored-order-below}
use Rattle.model.proofs.Slice.{flat-rows_of}
use Rattle.model.proofs.Theorems.{solve_theorem}
use Rattle.factor.specs.Slices.{factoring_of}

-- what `check_inputs` answers is what the model asks
solve_taken : (size a l b o m finite-a finite-b : Bool) → Ok tt ≡ inputs size ((a && (l && true)) && (b && (o && (m && true)))) (finite-a && (finite-b && true))
    → inputs size (a && b && l && o && m) (finite-a && finite-b) ≡ Ok tt
solve_taken size a l b o m finite-a finite-b is = grind arith

-- r is what the factoring answered, and lu and order are what it left
module _ {X : Type 0} (v : X → Float) (f : Format) (n : ℕ) (a lu : List X) (order : List ℕ) (r : Result (Unit {0}) FactorRefusal) (long : length lu ≡ n * n)
    (e : factoring_of v n lu order r ≡ factored f (matrix n (map v a))) where
  pub factors-left : map v lu ≡ flat (factored f (matrix n (map v a))).rows
  factors-left = sym (flat-rows_of n n (map v lu) (length-map lu v ∙ long)) ∙ ap (λ s. flat s.rows) e

  -- each given row that stands in a place is one of the n
  pub order_below : (k : ℕ) → k < n → get_or order k 0 < n
  order_below k h =
      let m = matrix n (map v a) in
      let high : length m ≡ n = length-rows_of n n (map v a) in
      let inside : k < length m = omega arith in
      let below : get_or order k 0 < length m = rw (ap (λ s. s.order) e) (factored-order-below f m k inside) in
      omega arith

  -- what is said of the factoring is said of what it left
  carried : (P : Factoring → Row → Type 0) → P (factored f (matrix n (map v a))) (flat (factored f (matrix n (map v a))).rows) → P (factoring_of v n lu order r) (map v lu)
  carried P p = subst (λ s. P s (map v lu)) (sym e) (subst (P (factored f (matrix n (map v a)))) (sym factors-left) p)

  -- what the call leaves in the factors: before, lu₀ was there; o and m are the lengths of the order and the answer
  pub solve_left : (b lu₀ : List X) (o m : ℕ)
      → Ok tt ≡ inputs (size_taken n) ((eqb (length a) (n * n) && (eqb (length lu₀) (n * n) && true)) && (eqb (length b) n && (eqb o n && (eqb m n && true)))) (all_finite (map v a) && (all_finite (map v b) && true))
      → map v lu ≡ solve_lu f n (map v a) (map v b) (map v lu₀) o m
  solve_left b lu₀ o m is =
      let taken : solve_inputs n (map v a) (map v b) (length (map v lu₀)) o m ≡ Ok tt = rw (length-map a v, length-map b v, length-map lu₀ v)
      (solve_taken (size_taken n) (eqb (length a) (n * n)) (eqb (length lu₀) (n * n)) (eqb (length b) n) (eqb o n) (eqb m n) (all_finite (map v a)) (all_finite (map v b)) is) in
      factors-left ∙ sym (ap (λ i. cond (is_ok i) (flat (factored f (matrix n (map v a))).rows) (map v lu₀)) taken)

  -- b is the right side, and l, o and m are the lengths of the factors, the order and the answer before
  pub stable : r ≡ Ok tt → T (all_fit f (map v a)) → (b : List X) (l o m : ℕ)
      → Ok tt ≡ inputs (size_taken n) ((eqb (length a) (n * n) && (eqb l (n * n) && true)) && (eqb (length b) n && (eqb o n && (eqb m n && true)))) (all_finite (map v a) && (all_finite (map v b) && true))
      → T (all_fit f (map v b)) → true ≡ solution_in_range f (matrix n (map v lu)) order (map v b)
      → SolveBackwardStable f n (map v a) (map v b) (map v lu) order (solution f (matrix n (map v lu)) order (map v b))
  stable answered fit-a b l o m is fit-b range =
      let ok = inputs_ok (size_taken n) _ _ (sym is) in
      let square : length a ≡ n * n = grind (arith, nat_tests) in
      let right : length b ≡ n = grind (arith, nat_tests) in
      carried (λ s rows. SolveBackwardStable f n (map v a) (map v b) rows s.order (solution f s.rows s.order (map v b)))
      (solve_theorem f n (map v a) (map v b)
      (record { size = ok.0; long = length-map a v ∙ square; finite = and_l (all_finite (map v a)) (all_finite (map v b) && true) ok.2; fit = fit-a })
      (record { long = length-map b v ∙ right; finite = and_l (all_finite (map v b)) true (and_r (all_finite (map v a)) (all_finite (map v b) && true) ok.2); fit = fit-b })
      (sym (ap (λ s. s.outcome) e) ∙ answered) (subst T (range ∙ ap (λ s. solution_in_range f s.rows s.order (map v b)) e) tt))
