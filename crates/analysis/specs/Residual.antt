-- The step by which errors gather when products are subtracted from a value one by one, in whole numbers: N is 2^p, C what the value started from,
-- P the exact sum of t products, W the sum of their magnitudes, S the value then; Q is the next product, and S' the value after it.
use Rattle.std.specs.Prelude.{ℕ, ◌+◌, ◌-◌, ◌*◌, ◌<◌, ◌≤◌, ℤ, ◌+ℤ◌, ◌-ℤ◌, unsigned_abs}

abbrev pub ResidualStep : Type 0
ResidualStep =
    (N t : ℕ) (C P S Q S' : ℤ) (W : ℕ) → t < N →
    (N - t) * unsigned_abs (C -ℤ P -ℤ S) ≤ t * (W + unsigned_abs S) →
    N * unsigned_abs (S -ℤ Q -ℤ S') ≤ unsigned_abs Q + unsigned_abs S' →
    (N - (t + 1)) * unsigned_abs (C -ℤ (P +ℤ Q) -ℤ S') ≤ (t + 1) * (W + unsigned_abs Q + unsigned_abs S')
