-- The rows of a matrix as lists, those that an iterator over them has left, and a matrix as floats.
use Rattle.std.specs.Prelude.{ℕ, zero, suc, List, [], ◌∷◌, map, take, drop, Float}
use Rattle.element.specs.declared.matrix.Matrix.{Matrix as View}
use Rattle.element.specs.declared.matrix.MatrixRows.{MatrixRows}
use Rattle.element.specs.Matrix.{Matrix, matrix}

-- r rows of n entries each, out of one list
unfoldable pub split_rows : {X : Type 0} → ℕ → ℕ → List X → List (List X)
split_rows zero n xs = []
split_rows (suc r) n xs = take n xs ∷ split_rows r n (drop n xs)

abbrev pub left : {X : Type 0} → MatrixRows X → List (List X)
left rows = split_rows rows.count rows.size rows.entries.now

-- what a matrix is as floats; v is what an element is as a float
abbrev pub matrix_values : {X : Type 0} → (X → Float) → View X → Matrix
matrix_values v m = matrix m.size (map v m.entries.now)
