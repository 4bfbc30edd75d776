-- The printed text of a finite float.
use Rattle.std.specs.Prelude.{◌≡◌, ℕ, Bool, true, false, List, [], ◌++◌, ℤ, Ok, Err, codes, Result, Float}
use Rattle.std.specs.Float.{nan, inf, fin}
use Rattle.std.specs.Float.Ieee.Scale.{finite}
use Rattle.std.specs.Fmt.{digits, sign_text, signed_decimal}
use Rattle.number_text.specs.declared.refusal.PrintRefusal.{PrintRefusal}
use Rattle.number_text.specs.declared.refusal.PrintRefusal.TheVariants.{NotFinite, Memory}

-- m 2^e: the digits of m with no needless 0, and e in decimal.
abbrev pub exact_text : Bool → ℕ → ℤ → List ℕ
exact_text s m e = sign_text s ++ (codes "0x" ++ (digits 16 false m ++ (codes "p" ++ signed_decimal e)))

-- A float that fits a format has an odd m, or is zero as 0 2^0. What is not finite has no text.
abbrev pub printed : Float → List ℕ
printed nan = []
printed (inf s) = []
printed (fin s m e) = exact_text s m e

-- `after` is `before` with the text of x; or x is not finite, and nothing was appended; or there is no memory.
abbrev pub PrintedTo : Float → List ℕ → List ℕ → Result (Unit {0}) PrintRefusal → Type 0
PrintedTo x before after (Ok _) = (finite x ≡ true) × (after ≡ before ++ printed x)
PrintedTo x before after (Err NotFinite) = (finite x ≡ false) × (after ≡ before)
PrintedTo x before after (Err Memory) = finite x ≡ true
