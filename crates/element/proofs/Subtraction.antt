-- A row of products subtracted, in the residual form: one step for each product, appended to what was subtracted before.
use Rattle.std.proofs.Common.{◌≡◌, ℕ, ◌+◌, ◌*◌, ◌^◌, ◌<◌, ◌≤◌, T, [], ◌∷◌, length, ℤ, pos, ◌+ℤ◌, ◌*ℤ◌, zero-add, arith}
use lib.IntN.{+ℤ_idl}
use lib.Ieee.{Float, Format, binary32, binary64, prec, fits, mul}
use lib.Ieee.Fits.{and_l, and_r, sub-fits}
use lib.Ieee.Scale.{finite}
use Rattle.exact.specs.Value.{unit, value}
use Rattle.exact.specs.Range.{product_in_range}
use Rattle.exact.proofs.Integer.{nat_abs-*ℤ}
use Rattle.analysis.proofs.Residual.{Close, close_start, close-step}
use Rattle.element.specs.Matrix.{Row, at}
use Rattle.element.specs.Products.{run, run_passes, subtract_product, subtraction_in_range, subtract_products, subtractions_in_range}
use Rattle.element.specs.Promises.{all_fit, dot, magnitudes, ProductsSubtracted}
use Rattle.element.proofs.Step.{subtraction_step}
use Rattle.element.proofs.Accumulation.{run_keeps}

-- after t products, and those of two rows of equal lengths
pub products-close : (f : Format) (s : Float) (xs ys : Row) (t : ℕ) (C P : ℤ) (W : ℕ) → T (fits f s) → T (all_fit f xs) → T (all_fit f ys) → length xs ≡ length ys
    → t + length xs ≤ 2 ^ prec f → T (subtractions_in_range f s xs ys) → Close (2 ^ prec f) t C P W (value s *ℤ pos unit)
    → T (fits f (subtract_products f s xs ys))
    × Close (2 ^ prec f) (t + length xs) C (P +ℤ dot (length xs) (at xs) (at ys)) (W + magnitudes (length xs) (at xs) (at ys)) (value (subtract_products f s xs ys) *ℤ pos unit)
products-close f s xs ys t C P W p q r e few range c =
    run_keeps f (subtraction_in_range f) (subtract_product f) (2 ^ prec f) (λ t P W s. T (fits f s) × Close (2 ^ prec f) t C P W (value s *ℤ pos unit))
    (λ t P W s x y below fit-x fit-y test k.
    (sub-fits f s (mul f x y), close-step (value x *ℤ value y) (value (subtract_product f s x y) *ℤ pos unit) below k.1 (subtraction_step f s x y k.0 fit-x fit-y test)))
    s xs ys t P W q r e few range (p, c)

-- a row of no products leaves s itself
pub products-finite : (f : Format) (s : Float) (xs ys : Row) → T (finite s) → T (subtractions_in_range f s xs ys) → T (finite (subtract_products f s xs ys))
unfolding run run_passes
products-finite f s [] ys h i = h
products-finite f s (x ∷ xs) [] h i = h
products-finite f s (x ∷ xs) (y ∷ ys) h i =
    let s' = subtract_product f s x y in
    let rest = subtractions_in_range f s' xs ys in
    let fine = and_r (product_in_range f x y) (finite s') (and_l (subtraction_in_range f s x y) rest i) in
    products-finite f s' xs ys fine (and_r (subtraction_in_range f s x y) rest i)

pub products-fit : (f : Format) (s : Float) (xs ys : Row) → T (fits f s) → T (fits f (subtract_products f s xs ys))
unfolding run
products-fit f s [] ys h = h
products-fit f s (x ∷ xs) [] h = h
products-fit f s (x ∷ xs) (y ∷ ys) h = products-fit f (subtract_product f s x y) xs ys (sub-fits f s (mul f x y))

-- sizes that the library takes are far below 2^p
pub size_below : (f : Format) (n : ℕ) → n ≤ 128 → 3 * n < 2 ^ prec f
size_below binary32 n h = omega arith
size_below binary64 n h = omega arith

pub products_subtracted : ProductsSubtracted
products_subtracted f c a b p q r e few range =
    let C = value c *ℤ pos unit in
    let s = subtract_products f c a b in
    let small : 0 + length a ≤ 2 ^ prec f = omega (arith, size_below f (length a) few) in
    let done = (products-close f c a b 0 C (pos 0) 0 p q r e small range (close_start (2 ^ prec f) C)).1 in
    rw (← nat_abs-*ℤ (value s) (pos unit)) (rw (zero-add (length a), +ℤ_idl (dot (length a) (at a) (at b)), zero-add (magnitudes (length a) (at a) (at b))) at done.near)
