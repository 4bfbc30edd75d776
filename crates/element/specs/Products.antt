-- Rows of products, operation by operation: each product rounded, then subtracted or added with a rounding, from the left.
-- Beside each value stands whether all its products, differences and sums are in range.
use Rattle.std.specs.Prelude.{◌≡◌, Bool, true, false, ◌&&◌, [], ◌∷◌, Some, None, Option, nat_le, Float}
use Rattle.std.specs.Float.{nan, inf, fin, Format}
use Rattle.std.specs.Float.Ieee.{add, sub, mul}
use Rattle.std.specs.Float.Ieee.Scale.{finite}
use Rattle.exact.specs.Value.{magnitude}
use Rattle.exact.specs.Range.{least, product_in_range}
use Rattle.element.specs.Matrix.{Row, Matrix, zero_float}

-- an answer r that is there if the test passes, and is then v
abbrev pub Gives : {X : Type 0} → (X → Float) → Bool → Float → Option X → Type 0
Gives val test v None = test ≡ false
Gives val test v (Some x) = (test ≡ true) × (val x ≡ v)

-- no smaller than what is in range may be; an infinity passes, and a NaN does not
abbrev pub not_below_range : Format → Float → Bool
not_below_range f nan = false
not_below_range f (inf s) = true
not_below_range f (fin s m e) = nat_le (least f) (magnitude (fin s m e))

-- s - a b, with two roundings
abbrev pub subtract_product : Format → Float → Float → Float → Float
subtract_product f s a b = sub f s (mul f a b)

abbrev pub subtraction_in_range : Format → Float → Float → Float → Bool
subtraction_in_range f s a b = product_in_range f a b && finite (subtract_product f s a b)

-- s + a b, with two roundings
abbrev pub add_product : Format → Float → Float → Float → Float
add_product f s a b = add f s (mul f a b)

abbrev pub addition_in_range : Format → Float → Float → Float → Bool
addition_in_range f s a b = product_in_range f a b && finite (add_product f s a b)

-- a step for each pair of entries of two rows, from the left, as long as both last
unfoldable pub run : (Float → Float → Float → Float) → Float → Row → Row → Float
run step s [] ys = s
run step s (x ∷ xs) [] = s
run step s (x ∷ xs) (y ∷ ys) = run step (step s x y) xs ys

-- whether each step passes a test
unfoldable pub run_passes : (Float → Float → Float → Bool) → (Float → Float → Float → Float) → Float → Row → Row → Bool
run_passes test step s [] ys = true
run_passes test step s (x ∷ xs) [] = true
run_passes test step s (x ∷ xs) (y ∷ ys) = test s x y && run_passes test step (step s x y) xs ys

-- s less all the products
abbrev pub subtract_products : Format → Float → Row → Row → Float
subtract_products f = run (subtract_product f)

abbrev pub subtractions_in_range : Format → Float → Row → Row → Bool
subtractions_in_range f = run_passes (subtraction_in_range f) (subtract_product f)

-- the sum of all the products, beginning with +0
abbrev pub sum_products : Format → Row → Row → Float
sum_products f = run (add_product f) zero_float

abbrev pub sum_in_range : Format → Row → Row → Bool
sum_in_range f = run_passes (addition_in_range f) (add_product f) zero_float

-- each row of a matrix times x
unfoldable pub sum_rows : Format → Matrix → Row → Row
sum_rows f [] x = []
sum_rows f (r ∷ rs) x = sum_products f r x ∷ sum_rows f rs x

unfoldable pub rows_in_range : Format → Matrix → Row → Bool
rows_in_range f [] x = true
rows_in_range f (r ∷ rs) x = sum_in_range f r x && rows_in_range f rs x
