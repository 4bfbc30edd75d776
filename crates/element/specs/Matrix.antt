-- Rows and matrices of floats as lists, and the one slice in which a matrix lies, row by row.
use Rattle.std.specs.Prelude.{ℕ, zero, suc, Bool, true, false, ◌&&◌, List, [], ◌∷◌, take, drop, pos, slice_index_or, Float}
use Rattle.std.specs.Float.{fin}
use Rattle.std.specs.Float.Ieee.Scale.{finite}

abbrev pub Row : Type 0
Row = List Float

abbrev pub Matrix : Type 0
Matrix = List Row

-- +0
abbrev pub zero_float : Float
zero_float = fin false 0 (pos 0)

abbrev pub at : Row → ℕ → Float
at r i = slice_index_or r i zero_float

abbrev pub row : Matrix → ℕ → Row
row m i = slice_index_or m i []

unfoldable pub all_finite : Row → Bool
all_finite [] = true
all_finite (x ∷ xs) = finite x && all_finite xs

-- r rows of n entries each, out of one list
unfoldable pub rows_of : ℕ → ℕ → Row → Matrix
rows_of zero n xs = []
rows_of (suc r) n xs = take n xs ∷ rows_of r n (drop n xs)

-- the square matrix of size n that a slice holds
abbrev pub matrix : ℕ → Row → Matrix
matrix n xs = rows_of n n xs
