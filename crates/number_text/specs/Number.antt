-- Which words are numbers, and of which float of a format. A word is a list of bytes; 46 is `.`, 48 is `0`, 112 is `p`
-- and 120 is `x`.
use Rattle.std.specs.Prelude.{ℕ, ◌^◌, Bool, true, cond, ◌&&◌, List, [], ◌∷◌, ◌++◌, length, drop, Some, None, Ok, Err, Option, Result, ◌==◌, nat_le, nat_lt, slice_index, Float}
use Rattle.std.specs.Float.{Format}
use Rattle.std.specs.Float.Ieee.{odd, round, fits}
use Rattle.std.specs.Str.Parse.{digits_value, starts_with_minus}
use Rattle.std.specs.Char.{digit_value}
use Rattle.number_text.specs.declared.refusal.NumberRefusal.{NumberRefusal}
use Rattle.number_text.specs.declared.refusal.NumberRefusal.TheVariants.{NotANumber}

-- Every byte is a digit below the radix, where a letter in either case counts from 10 on.
abbrev pub digits_below : ℕ → List ℕ → Bool
digits_below radix [] = true
digits_below radix (c ∷ cs) = nat_lt (digit_value c) radix && digits_below radix cs

-- The whole number that 1 to `most` digits spell.
abbrev pub numeral : ℕ → ℕ → List ℕ → Option ℕ
numeral radix most ds = cond (nat_lt 0 (length ds) && nat_le (length ds) most && digits_below radix ds) (Some (digits_value radix ds)) None

-- What stands before the first byte c, and after it.
abbrev pub before : ℕ → List ℕ → List ℕ
before c [] = []
before c (b ∷ bs) = cond (b == c) [] (b ∷ before c bs)

abbrev pub after : ℕ → List ℕ → List ℕ
after c [] = []
after c (b ∷ bs) = cond (b == c) bs (after c bs)

-- A text without the minus that it may begin with; `starts_with_minus` tells whether it does.
abbrev pub unsigned : List ℕ → List ℕ
unsigned w = cond (starts_with_minus w) (drop 1 w) w

abbrev pub and_then : {A B : Type 0} → Option A → (A → Option B) → Option B
and_then None k = None
and_then (Some a) k = k a

-- A decimal: the number that the digits before and after the point spell, over ten to the count of those after it,
-- rounded once.
abbrev pub decimal_number : Format → Bool → List ℕ → Option Float
decimal_number f s u = and_then (numeral 10 15 (before 46 u ++ after 46 u)) (λ m. Some (round f s m (10 ^ length (after 46 u))))

-- m 2^k / 2^l, if that is a value of the format; `odd 64` writes it with an odd whole number, for an m below 2^64.
abbrev pub exactly : Format → Bool → ℕ → ℕ → ℕ → Option Float
exactly f s m k l = cond (fits f (odd 64 s m k l)) (Some (odd 64 s m k l)) None

-- The same for m 2^n, or m 2^-n if `down` is true.
abbrev pub scaled : Format → Bool → ℕ → Bool → ℕ → Option Float
scaled f s m down n = cond down (exactly f s m 0 n) (exactly f s m n 0)

-- After `0x`: the whole number, and the size of the power after `p`.
abbrev pub whole_number : List ℕ → Option ℕ
whole_number u = numeral 16 14 (before 112 u)

abbrev pub power : List ℕ → Option ℕ
power u = numeral 10 4 (unsigned (after 112 u))

abbrev pub exact_number : Format → Bool → List ℕ → Option Float
exact_number f s u = and_then (whole_number u) (λ m. and_then (power u) (λ n. scaled f s m (starts_with_minus (after 112 u)) n))

-- `0x` stands first.
abbrev pub is_exact : List ℕ → Bool
is_exact u = slice_index u 0 == 48 && slice_index u 1 == 120

-- The float that a word is the number of: without its sign, and with it.
abbrev pub unsigned_number : Format → Bool → List ℕ → Option Float
unsigned_number f s u = cond (is_exact u) (exact_number f s (drop 2 u)) (decimal_number f s u)

abbrev pub number_of : Format → List ℕ → Option Float
number_of f w = unsigned_number f (starts_with_minus w) (unsigned w)

-- What was read, as a float.
abbrev pub value_read : {R : Type 0} → (R → Float) → Result R NumberRefusal → Option Float
value_read val (Ok x) = Some (val x)
value_read val (Err e) = None

abbrev pub refusal_number : NumberRefusal → ℕ
refusal_number NotANumber = 7
