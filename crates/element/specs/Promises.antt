-- What is promised of products of rows, in exact values: N is 2^p, p being the digits of the format.
use Rattle.std.specs.Prelude.{◌≡◌, ℕ, ◌+◌, ◌-◌, ◌*◌, ◌^◌, ◌<◌, ◌≤◌, Bool, true, ◌&&◌, T, [], ◌∷◌, length, ℤ, pos, ◌-ℤ◌, ◌*ℤ◌, unsigned_abs, Float}
use Rattle.std.specs.Float.{Format}
use Rattle.std.specs.Float.Ieee.{prec, fits}
use Rattle.exact.specs.Sum.{sumℕ, sumℤ}
use Rattle.exact.specs.Value.{unit, value, magnitude}
use Rattle.element.specs.Matrix.{Row, at}
use Rattle.element.specs.Products.{subtract_product, subtraction_in_range, subtract_products, subtractions_in_range}

-- every entry is a value of the format
unfoldable pub all_fit : Format → Row → Bool
all_fit f [] = true
all_fit f (x ∷ xs) = fits f x && all_fit f xs

-- the exact scalar product of the first n entries of two rows, and the sum of the magnitudes of its products
abbrev pub dot : ℕ → (ℕ → Float) → (ℕ → Float) → ℤ
dot n a b = sumℤ n (λ k. value (a k) *ℤ value (b k))

abbrev pub magnitudes : ℕ → (ℕ → Float) → (ℕ → Float) → ℕ
magnitudes n a b = sumℕ n (λ k. magnitude (a k) * magnitude (b k))

-- One product subtracted: two roundings.
abbrev pub ProductSubtracted : Type 0
ProductSubtracted =
    (f : Format) (s a b : Float) → T (fits f s) → T (fits f a) → T (fits f b) → T (subtraction_in_range f s a b) →
    let s' = subtract_product f s a b in
    2 ^ prec f * unsigned_abs (value s *ℤ pos unit -ℤ value a *ℤ value b -ℤ value s' *ℤ pos unit) ≤ magnitude a * magnitude b + magnitude s' * unit

-- A row of t products subtracted from c, in the residual form.
abbrev pub ProductsSubtracted : Type 0
ProductsSubtracted =
    (f : Format) (c : Float) (a b : Row) → T (fits f c) → T (all_fit f a) → T (all_fit f b) → length a ≡ length b → length a ≤ 128 → T (subtractions_in_range f c a b) →
    let t = length a in
    let s = subtract_products f c a b in
    (2 ^ prec f - t) * unsigned_abs (value c *ℤ pos unit -ℤ dot t (at a) (at b) -ℤ value s *ℤ pos unit) ≤ t * (magnitudes t (at a) (at b) + magnitude s * unit)

-- y is the product of a matrix of size n, row by row in a, and x, each entry to within n / (N - n) of the sum of the exact products' magnitudes.
abbrev pub ProductsNear : Format → ℕ → Row → Row → Row → Type 0
ProductsNear f n a x y =
    (i : ℕ) → i < n →
    (2 ^ prec f - n) * unsigned_abs (dot n (λ j. at a (i * n + j)) (at x) -ℤ value (at y i) *ℤ pos unit) ≤ n * magnitudes n (λ j. at a (i * n + j)) (at x)
