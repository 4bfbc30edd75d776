-- The law of one rounding (the standard model of floating-point arithmetic), for both formats, in exact values:
-- a result in range differs from the exact one by at most one part in 2^p of the exact one, and of the result, p being the format's digits.
-- A value is in units of 2^-1074 and a product of two values in units of 2^-2148, so a single value beside a product is multiplied by `unit`.
use Rattle.std.specs.Prelude.{ℕ, ◌*◌, ◌^◌, ◌<◌, ◌≤◌, T, ℤ, pos, ◌+ℤ◌, ◌-ℤ◌, ◌*ℤ◌, unsigned_abs, Float}
use Rattle.std.specs.Float.{Format}
use Rattle.std.specs.Float.Ieee.{prec, fits, add, sub, mul, div}
use Rattle.std.specs.Float.Ieee.Scale.{finite}
use Rattle.exact.specs.Value.{unit, value, magnitude}
use Rattle.exact.specs.Range.{product_in_range, quotient_in_range}

-- `computed` is `exact` with an error of at most one part in N, of either
pub record OneRounding (N : ℕ) (exact computed : ℤ) : Type 0 where
  pub of_exact : N * unsigned_abs (exact -ℤ computed) ≤ unsigned_abs exact
  pub of_computed : N * unsigned_abs (exact -ℤ computed) ≤ unsigned_abs computed

abbrev pub ProductLaw : Type 0
ProductLaw =
    (f : Format) (x y : Float) → T (fits f x) → T (fits f y) → T (product_in_range f x y) →
    OneRounding (2 ^ prec f) (value x *ℤ value y) (value (mul f x y) *ℤ pos unit)

-- of any magnitude: a sum too small for p digits is exact
abbrev pub SumLaw : Type 0
SumLaw =
    (f : Format) (x y : Float) → T (fits f x) → T (fits f y) → T (finite (add f x y)) →
    OneRounding (2 ^ prec f) (value x +ℤ value y) (value (add f x y))

abbrev pub DifferenceLaw : Type 0
DifferenceLaw =
    (f : Format) (x y : Float) → T (fits f x) → T (fits f y) → T (finite (sub f x y)) →
    OneRounding (2 ^ prec f) (value x -ℤ value y) (value (sub f x y))

-- the error is that of the quotient, times the divisor
abbrev pub QuotientLaw : Type 0
QuotientLaw =
    (f : Format) (x y : Float) → T (fits f x) → T (fits f y) → T (quotient_in_range f x y) →
    OneRounding (2 ^ prec f) (value x *ℤ pos unit) (value (div f x y) *ℤ value y)

-- A quotient of magnitude at most 1 rounds to a finite value of magnitude at most 1.
abbrev pub QuotientAtMostOne : Type 0
QuotientAtMostOne =
    (f : Format) (x y : Float) → T (fits f x) → T (fits f y) → T (finite x) → 0 < magnitude y → magnitude x ≤ magnitude y →
    T (finite (div f x y)) × (magnitude (div f x y) ≤ unit)
