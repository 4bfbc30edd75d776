-- A column eliminated without a look at each product and each difference: the factors of the products reach the threshold instead.
-- Where they do, and where all entries are finite afterwards, the column is that of the model (`Unlooked` in proofs).
use Rattle.std.specs.Prelude.{ℕ, ◌+◌, ◌<◌, Bool, true, not, ◌&&◌, ◌||◌, T, [], ◌∷◌, drop}
use Rattle.std.specs.Float.{Format}
use Rattle.std.specs.Float.Ieee.Scale.{finite}
use Rattle.exact.specs.Value.{is_zero}
use Rattle.exact.specs.Threshold.{reaches, zero_or_reaches}
use Rattle.element.specs.Matrix.{Row, Matrix, at, row}
use Rattle.model.specs.Factor.{Factoring, multiplier, exchange}
use Rattle.factor.specs.State.{eliminated}

-- each entry is zero or reaches the threshold
unfoldable pub all_reach : Format → Row → Bool
all_reach f [] = true
all_reach f (x ∷ xs) = zero_or_reaches f x && all_reach f xs

-- the multiplier of the row r is that of a zero, or reaches the threshold; p is the pivot row
abbrev pub multiplier_reaches : Format → ℕ → Row → Row → Bool
multiplier_reaches f k p r = is_zero (at r k) || reaches f (multiplier f k p r)

unfoldable pub multipliers_reach : Format → ℕ → Row → Matrix → Bool
multipliers_reach f k p [] = true
multipliers_reach f k p (r ∷ rs) = multiplier_reaches f k p r && multipliers_reach f k p rs

-- m are the rows after the exchange: the pivot is not zero, and all factors of the products reach the threshold
abbrev pub factors_reach : Format → ℕ → Matrix → Bool
factors_reach f k m = let p = row m k in not (is_zero (at p k)) && all_reach f (drop (k + 1) p) && multipliers_reach f k p (drop (k + 1) m)

abbrev pub column_reaches : Format → ℕ → Factoring → Bool
column_reaches f k s = factors_reach f k (exchange k s).rows

-- column k eliminated, whatever comes of it
abbrev pub column_cleared : Format → ℕ → Factoring → Factoring
column_cleared f k s = eliminated f k (exchange k s)

-- the n rows of n entries each are finite
abbrev pub Finite : ℕ → Matrix → Type 0
Finite n m = (i j : ℕ) → i < n → j < n → T (finite (at (row m i) j))
