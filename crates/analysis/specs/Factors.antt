-- Matrices of integers, as functions of a row and a column; the two triangular factors that one matrix holds, and their weight.
-- The integers are exact values in units of 1 / U, so that the number 1 is U.
use Rattle.std.specs.Prelude.{ℕ, ◌*◌, cond, ℤ, pos, ◌==◌, nat_le, nat_lt, unsigned_abs}
use Rattle.exact.specs.Sum.{sumℕ}

-- the entries below the diagonal, ones on it, zeros above it
unfoldable pub lower : ℕ → (ℕ → ℕ → ℤ) → ℕ → ℕ → ℤ
lower U M i k = cond (nat_lt k i) (M i k) (cond (k == i) (pos U) (pos 0))

-- the entries on and above the diagonal, zeros below it
unfoldable pub upper : (ℕ → ℕ → ℤ) → ℕ → ℕ → ℤ
upper M k j = cond (nat_le k j) (M k j) (pos 0)

-- the weight at row i and column j: Σ over k of |lower (i, k)| |upper (k, j)|
abbrev pub weight : ℕ → ℕ → (ℕ → ℕ → ℤ) → ℕ → ℕ → ℕ
weight U n M i j = sumℕ n (λ k. unsigned_abs (lower U M i k) * unsigned_abs (upper M k j))
