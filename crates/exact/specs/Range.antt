-- When the result of an operation is in range. Where it is, the law of one rounding holds of it (`Rounding`).
-- A sum or a difference is in range if it is finite, and so it has no definition here.
use Rattle.std.specs.Prelude.{ℕ, ◌-◌, ◌^◌, Bool, ◌&&◌, ◌||◌, nat_le, Float}
use Rattle.std.specs.Float.{Format, binary32, binary64}
use Rattle.std.specs.Float.Ieee.{mul, div}
use Rattle.std.specs.Float.Ieee.Scale.{finite}
use Rattle.exact.specs.Value.{magnitude, is_zero}

-- the least magnitude in range, in units: 2^-110 in binary32, 2^-1000 in binary64
abbrev pub least : Format → ℕ
least binary32 = 2 ^ (1074 - 110)
least binary64 = 2 ^ (1074 - 1000)

-- finite, and not so small that digits are lost
abbrev pub in_range : Format → Float → Bool
in_range f z = finite z && nat_le (least f) (magnitude z)

abbrev pub product_in_range : Format → Float → Float → Bool
product_in_range f x y = is_zero x || is_zero y || in_range f (mul f x y)

abbrev pub quotient_in_range : Format → Float → Float → Bool
quotient_in_range f x y = is_zero x || in_range f (div f x y)
