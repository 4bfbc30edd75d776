-- A factoring on its way, as the model has it, and what stays the same from step to step. v is what an element is as a float.
use Rattle.std.specs.Prelude.{◌≡◌, ℕ, ◌+◌, ◌++◌, take, drop, Result, Float}
use Rattle.std.specs.Float.{Format}
use Rattle.element.specs.Matrix.{row}
use Rattle.model.specs.declared.FactorRefusal.{FactorRefusal}
use Rattle.model.specs.Factor as model
use Rattle.model.specs.Factor.{eliminate_rows}
use Rattle.factor.specs.declared.factoring.Factoring.{Factoring}
use Rattle.factor.specs.Slices.{factoring_of}

-- the outcome is the given one
abbrev pub state : {X : Type 0} → (X → Float) → Factoring X → Result (Unit {0}) FactorRefusal → model.Factoring
state v s outcome = factoring_of v s.size s.entries.now s.order.now outcome

-- the size, and which slices hold the matrix and the order
abbrev pub SameSlices : {X : Type 0} → Factoring X → Factoring X → Type 0
SameSlices s t = (t.size ≡ s.size) × (t.entries.ghost_name ≡ s.entries.ghost_name) × (t.order.ghost_name ≡ s.order.ghost_name)

-- column k eliminated from each row below row k, whatever comes of it
abbrev pub eliminated : Format → ℕ → model.Factoring → model.Factoring
eliminated f k s = record { rows = take (k + 1) s.rows ++ eliminate_rows f k (row s.rows k) (drop (k + 1) s.rows); order = s.order; outcome = s.outcome }
