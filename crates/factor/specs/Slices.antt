-- A matrix and a factoring as slices hold them. v is what an element is as a float.
use Rattle.std.specs.Prelude.{ℕ, List, map, Result, Float}
use Rattle.element.specs.Matrix.{Matrix, matrix}
use Rattle.model.specs.declared.FactorRefusal.{FactorRefusal}
use Rattle.model.specs.Factor.{Factoring}

abbrev pub matrix_of : {X : Type 0} → (X → Float) → ℕ → List X → Matrix
matrix_of v n xs = matrix n (map v xs)

abbrev pub factoring_of : {X : Type 0} → (X → Float) → ℕ → List X → List ℕ → Result (Unit {0}) FactorRefusal → Factoring
factoring_of v n xs order outcome = record { rows = matrix_of v n xs; order = order; outcome = outcome }
