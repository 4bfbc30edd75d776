-- Finite sums: sum z plus n f is f 0 + ... + f (n - 1), added from the left, with z for the empty sum.
-- sumℕ and sumℤ are its instances at the naturals and the integers.
use Rattle.std.specs.Prelude.{ℕ, zero, suc, ◌+◌, ℤ, pos, ◌+ℤ◌}

unfoldable pub sum : {A : Type 0} → A → (A → A → A) → ℕ → (ℕ → A) → A
sum z plus zero f = z
sum z plus (suc n) f = plus (sum z plus n f) (f n)

abbrev pub sumℕ : ℕ → (ℕ → ℕ) → ℕ
sumℕ = sum 0 ◌+◌

abbrev pub sumℤ : ℕ → (ℕ → ℤ) → ℤ
sumℤ = sum (pos 0) ◌+ℤ◌
