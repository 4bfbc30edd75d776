-- The column of each refusal, and what is left in the place for it after a call.
use Rattle.std.specs.Prelude.{ℕ, Some, None, Ok, Err, Option, Result}
use Rattle.model.specs.declared.FactorRefusal.{FactorRefusal}
use Rattle.model.specs.declared.FactorRefusal.TheVariants as factoring
use Rattle.model.specs.declared.SolveRefusal.{SolveRefusal}
use Rattle.model.specs.declared.SolveRefusal.TheVariants as solving
use Rattle.model.specs.declared.AgainRefusal.{AgainRefusal}
use Rattle.model.specs.declared.AgainRefusal.TheVariants as again

abbrev pub factor_column : FactorRefusal → Option ℕ
factor_column (factoring.Input e) = None
factor_column (factoring.Pivot k) = Some k
factor_column (factoring.Range k) = Some k

-- n if solving is what refuses, the size being n
abbrev pub solve_column : ℕ → SolveRefusal → Option ℕ
solve_column n (solving.Factoring e) = factor_column e
solve_column n solving.Range = Some n

abbrev pub again_column : ℕ → AgainRefusal → Option ℕ
again_column n (again.Input e) = None
again_column n again.Factors = None
again_column n again.Range = Some n

-- k is what was there before
abbrev pub written : Option ℕ → ℕ → ℕ
written None k = k
written (Some column) k = column

abbrev pub outcome_column : {E : Type 0} → (E → Option ℕ) → Result (Unit {0}) E → ℕ → ℕ
outcome_column column (Ok u) k = k
outcome_column column (Err e) k = written (column e) k
