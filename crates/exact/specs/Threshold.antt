-- The threshold: the root of the least magnitude in range. A product of two factors of at least this magnitude is in range if it is finite.
use Rattle.std.specs.Prelude.{Bool, false, ◌||◌, negsuc, Float}
use Rattle.std.specs.Float.Ieee.{le}
use Rattle.std.specs.Float.{float_with_sign, fin, Format, binary32, binary64}
use Rattle.exact.specs.Value.{is_zero}

-- 2^-55 in binary32, 2^-500 in binary64
abbrev pub threshold : Format → Float
threshold binary32 = fin false 1 (negsuc 54)
threshold binary64 = fin false 1 (negsuc 499)

-- of at least this magnitude, an infinity too; a NaN is not
abbrev pub reaches : Format → Float → Bool
reaches f x = le (threshold f) (float_with_sign false x)

abbrev pub zero_or_reaches : Format → Float → Bool
zero_or_reaches f x = is_zero x || reaches f x
