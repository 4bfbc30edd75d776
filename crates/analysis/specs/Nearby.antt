-- x solves exactly a row that differs from the given one, a, by change / den at each place, and each change is at most c / (N - c) times the weight w there.
-- The right side b is in the units of a times x, and K units of w make one of a.
use Rattle.std.specs.Prelude.{◌≡◌, ℕ, ◌-◌, ◌*◌, ◌<◌, ◌≤◌, ℤ, pos, ◌+ℤ◌, ◌*ℤ◌, unsigned_abs}
use Rattle.exact.specs.Sum.{sumℤ}

pub record NearbyRow (N c K n : ℕ) (a : ℕ → ℤ) (b : ℤ) (w : ℕ → ℕ) (x : ℕ → ℤ) : Type 0 where
  pub den : ℕ
  pub positive : 0 < den
  pub change : ℕ → ℤ
  pub small : (j : ℕ) → j < n → (N - c) * (unsigned_abs (change j) * K) ≤ c * (w j * den)
  pub exact : sumℤ n (λ j. (a j *ℤ pos den +ℤ change j) *ℤ x j) ≡ b *ℤ pos den
