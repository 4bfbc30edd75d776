-- What holds of every printed text, in both formats.
use Rattle.std.specs.Prelude.{◌≡◌, ℕ, ◌%◌, true, T, ◌⊎◌, List, drop, is_some, Some, Float}
use Rattle.std.specs.Float.{Format}
use Rattle.std.specs.Float.Ieee.{fits}
use Rattle.std.specs.Float.Ieee.Scale.{finite}
use Rattle.number_text.specs.Number.{unsigned, is_exact, whole_number, power, number_of}
use Rattle.number_text.specs.Printed.{printed}

-- Reading what was printed gives back the same value, the sign of a zero included.
abbrev pub RoundTrip : Type 0
RoundTrip = (f : Format) (x : Float) → T (fits f x) → T (finite x) → number_of f (printed x) ≡ Some x

-- Of the exact form: `0x`, 1 to 14 hexadecimal digits, `p` and 1 to 4 digits, with a minus before either number or none.
pub record HasExactForm (w : List ℕ) : Type 0 where
  pub prefix : is_exact (unsigned w) ≡ true
  pub digits : is_some (whole_number (drop 2 (unsigned w))) ≡ true
  pub exponent : is_some (power (drop 2 (unsigned w))) ≡ true

abbrev pub PrintedIsExact : Type 0
PrintedIsExact = (f : Format) (x : Float) → T (fits f x) → T (finite x) → HasExactForm (printed x)

abbrev pub PrintedIsOdd : Type 0
PrintedIsOdd = (f : Format) (x : Float) → T (fits f x) → T (finite x)
    → (m : ℕ) × (whole_number (drop 2 (unsigned (printed x))) ≡ Some m) × ((m ≡ 0) ⊎ (m % 2 ≡ 1))
