-- Computed examples, in both formats, of what the law of one rounding says and where it ends: its premises can be met by results that are not exact,
-- a sum can reach the bound, and a product below the range breaks it.
use Rattle.std.specs.Prelude.{◌≡◌, ℕ, suc, ◌+◌, ◌-◌, ◌*◌, ◌/◌, ◌^◌, ◌<◌, false, T, pos, negsuc, ◌+ℤ◌, ◌-ℤ◌, ◌*ℤ◌, unsigned_abs, Float}
use Rattle.std.specs.Float.{fin, Format}
use Rattle.std.specs.Float.Ieee.{prec, low, fits, add, mul, div}
use Rattle.std.specs.Float.Ieee.Scale.{finite}
use Rattle.exact.specs.Value.{unit, value, magnitude}
use Rattle.exact.specs.Range.{product_in_range, quotient_in_range}

-- how far the rounded sum, product and quotient of x and y are from the exact ones, on the scale of their laws
abbrev pub sum_error : Format → Float → Float → ℕ
sum_error f x y = unsigned_abs ((value x +ℤ value y) -ℤ value (add f x y))

abbrev pub product_error : Format → Float → Float → ℕ
product_error f x y = unsigned_abs (value x *ℤ value y -ℤ value (mul f x y) *ℤ pos unit)

abbrev pub quotient_error : Format → Float → Float → ℕ
quotient_error f x y = unsigned_abs (value x *ℤ pos unit -ℤ value (div f x y) *ℤ value y)

-- a whole number, and a power of two
abbrev pub whole : ℕ → Float
whole m = fin false m (pos 0)

abbrev pub power : ℕ → Float
power k = fin false 1 (pos k)

-- 2^(p+1) + 3 has p + 2 digits
abbrev pub InexactSum : Type 0
InexactSum =
    (f : Format) → let x = power (suc (prec f)) in
    T (fits f x) × T (fits f (whole 3)) × T (finite (add f x (whole 3))) × (0 < sum_error f x (whole 3))

-- the square of 2^(p-1) + 1
abbrev pub InexactProduct : Type 0
InexactProduct = (f : Format) → let x = whole (2 ^ (prec f - 1) + 1) in T (fits f x) × T (product_in_range f x x) × (0 < product_error f x x)

-- 1 / 3
abbrev pub InexactQuotient : Type 0
InexactQuotient = (f : Format) → T (fits f (whole 1)) × T (fits f (whole 3)) × T (quotient_in_range f (whole 1) (whole 3)) × (0 < quotient_error f (whole 1) (whole 3))

-- 2^p + 1 lies halfway between two values, and rounds to 2^p
abbrev pub SumReachesBound : Type 0
SumReachesBound =
    (f : Format) → let x = power (prec f) in
    T (fits f x) × T (fits f (whole 1)) × T (finite (add f x (whole 1))) × (2 ^ prec f * sum_error f x (whole 1) ≡ magnitude (add f x (whole 1)))

-- a square near the format's least value is finite, and its error is more than one part in 2^p, of the exact square and of the result
abbrev pub ProductBelowRange : Type 0
ProductBelowRange =
    (f : Format) → let x = fin false 3 (negsuc (low f / 2)) in
    T (fits f x) × T (finite (mul f x x))
    × (unsigned_abs (value x *ℤ value x) < 2 ^ prec f * product_error f x x)
    × (magnitude (mul f x x) * unit < 2 ^ prec f * product_error f x x)
