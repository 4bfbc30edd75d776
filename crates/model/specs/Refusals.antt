-- The number of each refusal.
use Rattle.std.specs.Prelude.{ℕ}
use Rattle.element.specs.Refusals.{input_number}
use Rattle.model.specs.declared.FactorRefusal.{FactorRefusal}
use Rattle.model.specs.declared.FactorRefusal.TheVariants as factoring
use Rattle.model.specs.declared.SolveRefusal.{SolveRefusal}
use Rattle.model.specs.declared.SolveRefusal.TheVariants as solving
use Rattle.model.specs.declared.AgainRefusal.{AgainRefusal}
use Rattle.model.specs.declared.AgainRefusal.TheVariants as again

abbrev pub factor_number : FactorRefusal → ℕ
factor_number (factoring.Input e) = input_number e
factor_number (factoring.Pivot column) = 5
factor_number (factoring.Range column) = 6

abbrev pub solve_number : SolveRefusal → ℕ
solve_number (solving.Factoring e) = factor_number e
solve_number solving.Range = 6

abbrev pub again_number : AgainRefusal → ℕ
again_number (again.Input e) = input_number e
again_number again.Factors = 4
again_number again.Range = 6
