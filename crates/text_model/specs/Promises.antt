-- What holds of every text that the programs print: factors are read back as they were printed, `again` on them prints
-- what `solve` prints, and a printed answer is one that the main promise is about.
use Rattle.std.specs.Prelude.{◌≡◌, ℕ, ◌≤◌, List, ◌∷◌, ◌++◌, length, take, Some, Ok, codes, slice_index}
use Rattle.element.specs.Matrix.{Row, matrix}
use Rattle.model.specs.Factor.{factored}
use Rattle.model.specs.Calls.{flat}
use Rattle.model.specs.Promises.{Square, SolveBackwardStable}
use Rattle.text_model.specs.declared.Precision.{Precision}
use Rattle.text_model.specs.Words.{Word, words_of}
use Rattle.text_model.specs.Systems.{System, longest, format, numbers_of, system_of, matrix_in, right_side_in}
use Rattle.text_model.specs.Factors.{factors_of}
use Rattle.text_model.specs.Lines.{factors_text}
use Rattle.text_model.specs.Programs.{solve_printed, factors_of_system, again_printed}

-- The size, the order and the numbers come back, whatever text r follows; the entries of an order are of 16 bits.
abbrev pub FactorsReadBack : Type 0
FactorsReadBack =
    (p : Precision) (n : ℕ) (order : List ℕ) (lu : Row) (r : List ℕ) →
    Square (format p) n lu → length order ≡ n → ((i : ℕ) → slice_index order i ≤ 65535) → length (factors_text p n order lu ++ r) ≤ longest →
    factors_of (factors_text p n order lu ++ r) ≡ Ok (record { precision = p; size = n; order = order; lu = lu; rest = words_of r })

-- `again` on the factors of the system of the text t, followed by the right side of that system in any words, prints what `solve` prints.
abbrev pub AgainAsSolvePrinted : Type 0
AgainAsSolvePrinted =
    (t factors r : List ℕ) (s : System) → system_of t ≡ Ok s → factors_of_system s ≡ Ok factors →
    numbers_of (format s.precision) (words_of r) ≡ Some (right_side_in s) → length (factors ++ r) ≤ longest →
    again_printed (factors ++ r) ≡ solve_printed t

-- What `solve` prints for the text t is `answer` and numbers which, read back, solve exactly a nearby system.
pub record StableAnswer (t : List ℕ) : Type 0 where
  pub system : System
  pub read : system_of t ≡ Ok system
  pub words : List Word
  pub printed : words_of (solve_printed t) ≡ codes "answer" ∷ words
  pub x : Row
  pub read_back : numbers_of (format system.precision) words ≡ Some x
  pub stable :
      let n = system.size in
      let w = factored (format system.precision) (matrix n (matrix_in system)) in
      SolveBackwardStable (format system.precision) n (matrix_in system) (right_side_in system) (flat w.rows) w.order x

abbrev pub PrintedAnswersStable : Type 0
PrintedAnswersStable = (t : List ℕ) → take 6 (solve_printed t) ≡ codes "answer" → StableAnswer t
