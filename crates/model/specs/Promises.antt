-- What is promised of the factors and the answer that were worked out, in exact values. N is 2^p, p being the digits of the format.
use Rattle.std.specs.Prelude.{◌≡◌, ℕ, ◌+◌, ◌-◌, ◌*◌, ◌^◌, ◌<◌, ◌≤◌, T, List, length, ℤ, pos, ◌-ℤ◌, ◌*ℤ◌, Ok, slice_index, unsigned_abs}
use Rattle.std.specs.Float.{Format}
use Rattle.std.specs.Float.Ieee.{prec}
use Rattle.exact.specs.Sum.{sumℤ}
use Rattle.exact.specs.Value.{unit, value}
use Rattle.analysis.specs.Factors.{lower, upper, weight}
use Rattle.analysis.specs.Nearby.{NearbyRow}
use Rattle.element.specs.Matrix.{Row, at, matrix, all_finite}
use Rattle.element.specs.Multiply.{size_taken}
use Rattle.element.specs.Promises.{all_fit}
use Rattle.model.specs.Factor.{factored}
use Rattle.model.specs.Solve.{solution, solution_in_range}
use Rattle.model.specs.Calls.{flat, factors_sound}

-- the exact value of entry i, j of a matrix of size n that lies in one slice
abbrev pub entry : ℕ → Row → ℕ → ℕ → ℤ
entry n xs i j = value (at xs (i * n + j))

-- the given row that stands in place i
abbrev pub place : List ℕ → ℕ → ℕ
place order i = slice_index order i

-- entry i, j of the exact product of the two factors that lu holds
abbrev pub factor_product : ℕ → Row → ℕ → ℕ → ℤ
factor_product n lu i j = sumℤ n (λ k. lower unit (entry n lu) i k *ℤ upper (entry n lu) k j)

-- The product of the factors differs from the matrix, with its rows in their order, by at most n / (N - n) times the weight.
abbrev pub FactorsNear : Format → ℕ → Row → Row → List ℕ → Type 0
FactorsNear f n a lu order =
    (i j : ℕ) → i < n → j < n →
    (2 ^ prec f - n) * unsigned_abs (entry n a (place order i) j *ℤ pos unit -ℤ factor_product n lu i j) ≤ n * weight unit n (entry n lu) i j

-- No multiplier is above 1 in magnitude, no pivot is zero, and each given row stands in exactly one place.
abbrev pub PivotsBounded : ℕ → Row → List ℕ → Type 0
PivotsBounded n lu order =
    (i : ℕ) → i < n →
    ((j : ℕ) → j < i → unsigned_abs (entry n lu i j) ≤ unit)
    × (0 < unsigned_abs (entry n lu i i))
    × ((p : ℕ) × (p < n) × (place order p ≡ i) × ((q : ℕ) → q < n → place order q ≡ i → q ≡ p))

-- a matrix that a call takes: of size n, all entries finite values of the format
pub record Square (f : Format) (n : ℕ) (a : Row) : Type 0 where
  pub size : T (size_taken n)
  pub long : length a ≡ n * n
  pub finite : T (all_finite a)
  pub fit : T (all_fit f a)

-- a right side that a call takes
pub record RightSide (f : Format) (n : ℕ) (b : Row) : Type 0 where
  pub long : length b ≡ n
  pub finite : T (all_finite b)
  pub fit : T (all_fit f b)

abbrev pub FactorTheorem : Type 0
FactorTheorem =
    (f : Format) (n : ℕ) (a : Row) → Square f n a →
    let s = factored f (matrix n a) in
    s.outcome ≡ Ok tt → FactorsNear f n a (flat s.rows) s.order × PivotsBounded n (flat s.rows) s.order

-- x solves exactly, row by row, a system whose entries differ from the given ones by at most 3n / (N - 3n) times the weight of the factors.
abbrev pub NearbySystem : Format → ℕ → Row → Row → Row → List ℕ → Row → Type 0
NearbySystem f n a b lu order x =
    (i : ℕ) → i < n →
    NearbyRow (2 ^ prec f) (3 * n) unit n (entry n a (place order i)) (value (at b (place order i)) *ℤ pos unit) (weight unit n (entry n lu) i) (λ j. value (at x j))

-- THE MAIN PROMISE, of an answer x with the factors lu and the order: x is finite and solves a nearby system, the factors are near the matrix, and the pivots are bounded.
pub record SolveBackwardStable (f : Format) (n : ℕ) (a b lu : Row) (order : List ℕ) (x : Row) : Type 0 where
  pub finite : T (all_finite x)
  pub nearby : NearbySystem f n a b lu order x
  pub factors : FactorsNear f n a lu order
  pub pivots : PivotsBounded n lu order

abbrev pub SolveTheorem : Type 0
SolveTheorem =
    (f : Format) (n : ℕ) (a b : Row) → Square f n a → RightSide f n b →
    let s = factored f (matrix n a) in
    s.outcome ≡ Ok tt → T (solution_in_range f s.rows s.order b) →
    SolveBackwardStable f n a b (flat s.rows) s.order (solution f s.rows s.order b)

-- With factors from anywhere: x is finite and solves exactly a system whose entries differ from the exact product of the two factors
-- by at most 2n / (N - 2n) times their weight.
pub record AgainBackwardStable (f : Format) (n : ℕ) (lu : Row) (order : List ℕ) (b x : Row) : Type 0 where
  pub finite : T (all_finite x)
  pub nearby : (i : ℕ) → i < n →
      NearbyRow (2 ^ prec f) (2 * n) 1 n (factor_product n lu i) (value (at b (place order i)) *ℤ pos unit *ℤ pos unit) (weight unit n (entry n lu) i) (λ j. value (at x j))

abbrev pub AgainTheorem : Type 0
AgainTheorem =
    (f : Format) (n : ℕ) (lu : Row) (order : List ℕ) (b : Row) → Square f n lu → RightSide f n b → length order ≡ n → T (factors_sound n lu order) →
    T (solution_in_range f (matrix n lu) order b) → AgainBackwardStable f n lu order b (solution f (matrix n lu) order b)
