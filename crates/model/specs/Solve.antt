-- The two triangular solves with factors that stand in one matrix, operation by operation, and whether everything is in range.
use Rattle.std.specs.Prelude.{ℕ, ◌+◌, Bool, true, ◌&&◌, List, [], ◌∷◌, ◌++◌, map, length, take, drop}
use Rattle.std.specs.Float.{Format}
use Rattle.std.specs.Float.Ieee.{div}
use Rattle.exact.specs.Range.{quotient_in_range}
use Rattle.element.specs.Matrix.{Row, Matrix, at}
use Rattle.element.specs.Products.{subtract_products, subtractions_in_range}

-- ---- forward: ys are the first entries; the next is that of the right side less the multipliers of its row times ys
unfoldable pub forward : Format → Matrix → Row → Row → Row
forward f [] bs ys = ys
forward f (r ∷ rs) [] ys = ys
forward f (r ∷ rs) (b ∷ bs) ys = forward f rs bs (ys ++ subtract_products f b (take (length ys) r) ys ∷ [])

unfoldable pub forward_in_range : Format → Matrix → Row → Row → Bool
forward_in_range f [] bs ys = true
forward_in_range f (r ∷ rs) [] ys = true
forward_in_range f (r ∷ rs) (b ∷ bs) ys =
    subtractions_in_range f b (take (length ys) r) ys && forward_in_range f rs bs (ys ++ subtract_products f b (take (length ys) r) ys ∷ [])

-- ---- backward: the rows are those from place i on; the last entry comes first
unfoldable pub backward : Format → ℕ → Matrix → Row → Row
backward f i [] ys = []
backward f i (r ∷ rs) [] = []
backward f i (r ∷ rs) (y ∷ ys) = let xs = backward f (i + 1) rs ys in div f (subtract_products f y (drop (i + 1) r) xs) (at r i) ∷ xs

unfoldable pub backward_in_range : Format → ℕ → Matrix → Row → Bool
unfolding backward
backward_in_range f i [] ys = true
backward_in_range f i (r ∷ rs) [] = true
backward_in_range f i (r ∷ rs) (y ∷ ys) =
    let xs = backward f (i + 1) rs ys in
    backward_in_range f (i + 1) rs ys && subtractions_in_range f y (drop (i + 1) r) xs && quotient_in_range f (subtract_products f y (drop (i + 1) r) xs) (at r i)

-- ---- both, for the right side b whose rows stand in the order o
abbrev pub permuted : Row → List ℕ → Row
permuted b o = map (at b) o

abbrev pub solution : Format → Matrix → List ℕ → Row → Row
solution f m o b = backward f 0 m (forward f m (permuted b o) [])

abbrev pub solution_in_range : Format → Matrix → List ℕ → Row → Bool
solution_in_range f m o b = forward_in_range f m (permuted b o) [] && backward_in_range f 0 m (forward f m (permuted b o) [])
