-- The exact value of a float, as a whole number of units of 2^-1074. Every finite value of binary64 and of binary32 is such a multiple.
use Rattle.std.specs.Prelude.{ℕ, suc, ◌+◌, ◌-◌, ◌*◌, ◌^◌, Bool, true, false, ℤ, pos, negsuc, neg_ℤ, ◌==◌, unsigned_abs, Float}
use Rattle.std.specs.Float.{nan, inf, fin}

-- the value 1, in units
abbrev pub unit : ℕ
unit = 2 ^ 1074

abbrev pub signed : Bool → ℕ → ℤ
signed false n = pos n
signed true n = neg_ℤ (pos n)

-- m * 2^e in units of 2^-l, for an e of -l at least
abbrev pub scaled : ℕ → ℕ → ℤ → ℕ
scaled l m (pos k) = m * 2 ^ (k + l)
scaled l m (negsuc k) = m * 2 ^ (l - suc k)

-- A NaN and the infinities have no value. They are given 0, and no law speaks of them.
abbrev pub value : Float → ℤ
value nan = pos 0
value (inf s) = pos 0
value (fin s m e) = signed s (scaled 1074 m e)

-- the absolute value, in units
abbrev pub magnitude : Float → ℕ
magnitude x = unsigned_abs (value x)

-- either of the two signed zeros
abbrev pub is_zero : Float → Bool
is_zero nan = false
is_zero (inf s) = false
is_zero (fin s m e) = m == 0
