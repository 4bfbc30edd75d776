-- Floats as whole numbers of their format's least value, which the code reads and prints by.
use Rattle.std.specs.Prelude.{◌≡◌, ℕ, suc, ◌+◌, ◌*◌, ◌^◌, ◌<◌, ◌≤◌, Bool, Float}
use Rattle.std.specs.Float.{Format}
use Rattle.std.specs.Float.Ieee.{prec, emax, low, hid, odd}

-- q 2^k units, a unit being the format's least value above zero, for a q below 2^64.
abbrev pub in_units : Format → Bool → ℕ → ℕ → Float
in_units f s q k = odd 64 s q k (low f)

-- A finite value whose q has just the digits that the format keeps, or is 2^prec after a rounding has carried, or has
-- fewer digits where k is 0.
pub record HeldUnits (f : Format) (q k : ℕ) : Type 0 where
  pub digits : q ≤ 2 ^ prec f
  pub normal : 0 < k → hid f ≤ q
  pub place : k < 2 * emax f
  pub finite : q * 2 ^ k < 2 ^ (low f + suc (emax f))

-- x is finite and q 2^k units, with a q that the format holds.
pub record IsUnits (f : Format) (x : Float) (s : Bool) (q k : ℕ) : Type 0 where
  pub is : x ≡ in_units f s q k
  pub digits : q < 2 ^ prec f
  pub place : k < 2 * emax f
