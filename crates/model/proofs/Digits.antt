-- `again` with the factors and the order of a factoring that answered does what `solve` does with the matrix, digit for digit.
use Rattle.std.proofs.Common.{◌≡◌, ℕ, ◌+◌, ◌*◌, ◌<◌, Bool, true, false, cond, ◌&&◌, eqb, List, length, is_ok, Ok, Err, Result, sym, refl, ap, ◌∙◌, ap₂, subst₂, zero-add}
use lib.Ieee.{Format}
use lib.Ieee.Bits.{is_true}
use lib.Ieee.Fits.{and_i}
use Rattle.std.proofs.lemmas.Bool.{eq-eqb}
use Rattle.exact.specs.Value.{is_zero}
use Rattle.element.specs.declared.refusal.InputRefusal.{InputRefusal}
use Rattle.exact.proofs.Magnitude.{not-zero}
use Rattle.element.specs.Matrix.{Row, at, row, matrix, all_finite}
use Rattle.model.specs.declared.FactorRefusal.{FactorRefusal}
use Rattle.model.specs.declared.FactorRefusal.TheVariants as factoring
use Rattle.model.specs.declared.SolveRefusal.{SolveRefusal}
use Rattle.model.specs.declared.SolveRefusal.TheVariants as solving
use Rattle.model.specs.declared.AgainRefusal.{AgainRefusal}
use Rattle.model.specs.declared.AgainRefusal.TheVariants as again
use Rattle.model.specs.Refusals.{solve_number, again_number}
use Rattle.model.specs.Factor.{factored}
use Rattle.model.specs.Solve.{solution, solution_in_range}
use Rattle.model.specs.Calls.{flat, once_each, no_zero_pivot, factors_sound, solve_inputs, solve_outcome, again_inputs, again_outcome}
use Rattle.model.specs.Promises.{Square, PivotsBounded, FactorTheorem}
use Rattle.model.specs.Again.{AgainAsSolve}
use Rattle.element.specs.Refusals.{outcome_number}
use Rattle.element.proofs.Entries.{length-rows_of, row_at}
use Rattle.model.proofs.Slice.{matrix-flat, flat-square}
use Rattle.model.proofs.Again.{no_zero_from}
use Rattle.model.proofs.Places.{order-once}
use Rattle.model.proofs.Stable.{FactorsSquare}

-- ---- the outcomes, as they follow from the inputs i, from the factoring's outcome o or from whether the factors are sound, and from the range r
abbrev pub solve_answer : Result (Unit {0}) InputRefusal → Result (Unit {0}) FactorRefusal → Bool → Result (Unit {0}) SolveRefusal
solve_answer i o r = elim i [
  | Ok u ↦ elim o [ Ok v ↦ cond r (Ok tt) (Err solving.Range) | Err e ↦ Err (solving.Factoring e) ]
  | Err e ↦ Err (solving.Factoring (factoring.Input e))
]

abbrev pub again_answer : Result (Unit {0}) InputRefusal → Bool → Bool → Result (Unit {0}) AgainRefusal
again_answer i sound r = elim i [ Ok u ↦ cond sound (cond r (Ok tt) (Err again.Range)) (Err again.Factors) | Err e ↦ Err (again.Input e) ]

abbrev Alike : Result (Unit {0}) AgainRefusal → Result (Unit {0}) SolveRefusal → Type 0
Alike p q = (outcome_number again_number p ≡ outcome_number solve_number q) × (is_ok p ≡ is_ok q)

alike : (i : Result (Unit {0}) InputRefusal) (r : Bool) → Alike (again_answer i true r) (solve_answer i (Ok tt) r)
alike (Ok u) true = (refl, refl)
alike (Ok u) false = (refl, refl)
alike (Err e) r = (refl, refl)

-- ---- the inputs and the factors
solve_lengths : (b x : Bool) → (true && b && true && true && x) ≡ (b && x)
solve_lengths true x = refl
solve_lengths false x = refl

module _ (f : Format) (n : ℕ) (a lu : Row) (order : List ℕ) (given : Square f n a) (square : Square f n lu) (places : length order ≡ n) where
  inputs-same : (b : Row) (m : ℕ) → again_inputs n lu order b m ≡ solve_inputs n a b (n * n) n m
  inputs-same b m =
      rw (
        eq-eqb (length lu) (n * n) square.long,
        eq-eqb (length order) n places,
        eq-eqb (length a) (n * n) given.long,
        eq-eqb (n * n) (n * n) refl,
        eq-eqb n n refl,
        is_true (all_finite a) given.finite,
        solve_lengths (eqb (length b) n) (eqb m n),
      )

  sound : PivotsBounded n lu order → factors_sound n lu order ≡ true
  sound bounded =
      let nonzero : (i : ℕ) → i < length (matrix n lu) → is_zero (at (row (matrix n lu) i) (0 + i)) ≡ false = λ i h.
      (let below : i < n = rw (length-rows_of n n lu) at h in
      rw (zero-add i, row_at n lu i below i below) (not-zero (at lu (i * n + i)) (bounded i below).1)) in
      let entries = and_i (once_each n order) (all_finite lu) (order-once n lu order places bounded) square.finite in
      is_true _ (and_i (once_each n order && all_finite lu) (no_zero_pivot 0 (matrix n lu)) entries (no_zero_from 0 (matrix n lu) nonzero))

pub again_as_solve : FactorTheorem → FactorsSquare → AgainAsSolve
again_as_solve factors shape f n a b x square ok =
    let s = factored f (matrix n a) in
    let lu = flat s.rows in
    let (rows, places) = shape f n a square ok in
    let same : matrix n lu ≡ s.rows = matrix-flat rows in
    let sq = flat-square rows square.size in
    let i = solve_inputs n a b (n * n) n (length x) in
    let r = solution_in_range f s.rows s.order b in
    let again_is : again_outcome f n lu s.order b (length x) ≡ again_answer i true r =
    ap (λ j. again_answer j (factors_sound n lu s.order) (solution_in_range f (matrix n lu) s.order b)) (inputs-same f n a lu s.order square sq places b (length x))
    ∙ ap₂ (again_answer i) (sound f n a lu s.order square sq places (factors f n a square ok).1) (ap (λ m. solution_in_range f m s.order b) same) in
    let solve_is : solve_outcome f n a b (n * n) n (length x) ≡ solve_answer i (Ok tt) r = ap (λ o. solve_answer i o r) ok in
    let both = subst₂ Alike (sym again_is) (sym solve_is) (alike i r) in
    (both.0, ap₂ (λ t z. cond t z x) both.1 (ap (λ m. solution f m s.order b) same))
