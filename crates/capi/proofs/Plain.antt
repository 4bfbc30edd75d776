-- What the call `factor` of the crate `solver` says of the values of floats, said of the floats themselves: a float is its own value.
use Rattle.std.proofs.Common.{◌≡◌, ℕ, List, map, length, IfOk, Result, sym, ap, ◌∙◌, map-id}
use lib.Ieee.{Format}
use Rattle.element.specs.Refusals.{outcome_number}
use Rattle.element.specs.Matrix.{Row}
use Rattle.model.specs.declared.FactorRefusal.{FactorRefusal}
use Rattle.model.specs.Refusals.{factor_number}
use Rattle.model.specs.Calls.{factor_outcome, factor_lu, factor_order}
use Rattle.model.specs.Promises.{FactorsNear, PivotsBounded}
use Rattle.solver.proofs.Promised.{factor-answered}
use Rattle.capi.specs.Columns.{factor_column, outcome_column}
use Rattle.capi.specs.Calls.{FactorCall}

-- r is the outcome
pub factor_plain : (f : Format) (n : ℕ) (a lu : Row) (o : List ℕ) (k : ℕ) (r : Result (Unit {0}) FactorRefusal) (number : ℕ) (lu' : Row) (o' : List ℕ) (k' : ℕ)
    → r ≡ factor_outcome f n (map (λ v. v) a) (length lu) (length o)
    → map (λ v. v) lu' ≡ factor_lu f n (map (λ v. v) a) (map (λ v. v) lu) (length o)
    → o' ≡ factor_order f n (map (λ v. v) a) (length lu) o
    → IfOk r (λ _. FactorsNear f n (map (λ v. v) a) (map (λ v. v) lu') o' × PivotsBounded n (map (λ v. v) lu') o')
    → number ≡ outcome_number factor_number r → k' ≡ outcome_column factor_column r k
    → FactorCall f n a lu o k number lu' o' k'
factor_plain f n a lu o k r number lu' o' k' outcome factors places near numbered column =
    let same : r ≡ factor_outcome f n a (length lu) (length o) = simp map-id at outcome in
    let bounded : IfOk r (λ _. FactorsNear f n a lu' o' × PivotsBounded n lu' o') = simp map-id at near in
    record {
      returned = numbered ∙ ap (outcome_number factor_number) same;
      factors = simp map-id at factors;
      places = simp map-id at places;
      ended = column ∙ ap (λ q. outcome_column factor_column q k) same;
      near = λ z. factor-answered (FactorsNear f n a lu' o' × PivotsBounded n lu' o') r bounded (sym numbered ∙ z);
    }
