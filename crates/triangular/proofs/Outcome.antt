-- What the answer of the call `again` is worth. v is what an element is as a float.
use Rattle.std.proofs.Common.{◌≡◌, ℕ, ◌*◌, true, ◌&&◌, T, eqb, List, map, length, Ok, Result, sym, ◌∙◌, subst, arith}
use lib.Ieee.{Float, Format}
use lib.Ieee.Fits.{and_l}
use Rattle.std.proofs.lemmas.List.{length-map}
use Rattle.std.proofs.lemmas.Bool.{and_parts}
use Rattle.std.proofs.lemmas.Bool.Decides.{nat_tests}
use Rattle.element.specs.declared.refusal.InputRefusal.{InputRefusal}
use Rattle.element.specs.Matrix.{matrix, all_finite}
use Rattle.element.specs.Multiply.{inputs, size_taken}
use Rattle.element.specs.Promises.{all_fit}
use Rattle.element.proofs.Outcome.{inputs_ok}
use Rattle.model.specs.Solve.{solution, solution_in_range}
use Rattle.model.specs.Calls.{once_each, no_zero_pivot, factors_sound}
use Rattle.model.specs.Promises.{AgainBackwardStable}
use Rattle.model.proofs.Again.{again_theorem}

module _ {X : Type 0} (v : X → Float) (f : Format) (n : ℕ) (lu : List X) (order : List ℕ) (b x : List X) where
  -- what `check_inputs` answers
  abbrev pub checked : Result (Unit {0}) InputRefusal
  checked =
      inputs (size_taken n) ((eqb (length lu) (n * n) && true) && (eqb (length order) n && (eqb (length b) n && (eqb (length x) n && true))))
      (all_finite (map v b) && true)

  pub stable : Ok tt ≡ checked → T (all_fit f (map v lu)) → T (all_fit f (map v b)) → true ≡ factors_sound n (map v lu) order → true ≡ solution_in_range f (matrix n (map v lu)) order (map v b)
      → AgainBackwardStable f n (map v lu) order (map v b) (solution f (matrix n (map v lu)) order (map v b))
  stable is fit-lu fit-b sound range =
      let rows = once_each n order in
      let finite = all_finite (map v lu) in
      let pivots = no_zero_pivot 0 (matrix n (map v lu)) in
      let lu-finite : finite ≡ true = (and_parts rows finite (and_parts (rows && finite) pivots (sym sound)).0).1 in
      let long : length lu ≡ n * n = grind (arith, nat_tests) in
      let places : length order ≡ n = grind (arith, nat_tests) in
      let right : length b ≡ n = grind (arith, nat_tests) in
      let ok = inputs_ok (size_taken n) _ _ (sym is) in
      again_theorem f n (map v lu) order (map v b)
      (record { size = ok.0; long = length-map lu v ∙ long; finite = subst T (sym lu-finite) tt; fit = fit-lu })
      (record { long = length-map b v ∙ right; finite = and_l (all_finite (map v b)) true ok.2; fit = fit-b })
      places (subst T sound tt) (subst T range tt)
