-- Two naturals that are near each other, stated without subtraction, and the nearest whole number to a fraction.
use Rattle.std.proofs.Common.{◌≡◌, ℕ, ◌+◌, ◌*◌, ◌/◌, ◌%◌, ◌<◌, ◌≤◌, refl, zero-le, mul-le-mul_right, mod-lt, div-add-mod', le_of_mul-le-mul_right, arith}
use Prim.Native.Nat.{compare, Ordering}
use lib.Ieee.{nearest}
use lib.Ieee.Nearest.{closest}

-- n times the difference of x and y is at most b
pub record Near (n x y b : ℕ) : Type 0 where
  pub over : n * x ≤ n * y + b
  pub under : n * y ≤ n * x + b

pub near_within : {n x y b b' : ℕ} → b ≤ b' → Near n x y b → Near n x y b'
near_within h e = record { over = omega arith; under = omega arith }

-- the count and the bound grow together
pub near_finer : {n x y b : ℕ} (k : ℕ) → Near n x y b → Near (n * k) x y (b * k)
near_finer k e =
    record { over = omega (arith, mul-le-mul_right k e.over); under = omega (arith, mul-le-mul_right k e.under) }

pub near-scale : {n x y b : ℕ} (k : ℕ) → Near n x y b → Near n (x * k) (y * k) (b * k)
near-scale k e =
    record { over = omega (arith, mul-le-mul_right k e.over); under = omega (arith, mul-le-mul_right k e.under) }

pub near_cancel : {n x y b : ℕ} (k : ℕ) → 0 < k → Near n (x * k) (y * k) (b * k) → Near n x y b
near_cancel {n} {x} {y} {b} k h e =
    let o : n * x * k ≤ (n * y + b) * k = omega (arith, e.over) in
    let u : n * y * k ≤ (n * x + b) * k = omega (arith, e.under) in
    record { over = le_of_mul-le-mul_right o h; under = le_of_mul-le-mul_right u h }

-- x and y differ by at most one part in n, of either
pub record Relative (n x y : ℕ) : Type 0 where
  pub of_left : Near n x y x
  pub of_right : Near n x y y

pub relative_same : (n x : ℕ) → Relative n x x
relative_same n x =
    let e : Near n x x 0 = record { over = omega arith; under = omega arith } in
    record { of_left = near_within zero-le e; of_right = near_within zero-le e }

pub relative_scale : {n x y : ℕ} (k : ℕ) → Relative n x y → Relative n (x * k) (y * k)
relative_scale k e = record { of_left = near-scale k e.of_left; of_right = near-scale k e.of_right }

pub relative_cancel : {n x y : ℕ} (k : ℕ) → 0 < k → Relative n (x * k) (y * k) → Relative n x y
relative_cancel k h e = record { of_left = near_cancel k h e.of_left; of_right = near_cancel k h e.of_right }

-- q and the remainder r of a division of a by b, and which of q and q + 1 is nearer to the quotient
nearer : (a b q r : ℕ) → q * b + r ≡ a → r < b → (o : Ordering) → compare (r * 2) b ≡ o → Near 2 (nearest q o * b) a b
nearer a b q r e l Ordering.lt c = let h : r * 2 < b = grind arith in record { over = omega arith; under = omega arith }
nearer a b q r e l Ordering.eq c =
    let h : r * 2 ≡ b = grind arith in
    let t : q % 2 * b ≤ 1 * b = mul-le-mul_right b (omega arith) in
    record { over = omega arith; under = omega arith }
nearer a b q r e l Ordering.gt c = let h : b < r * 2 = grind arith in record { over = omega arith; under = omega arith }

-- twice the distance of a fraction a / b from the nearest whole number is at most 1
pub closest-half : (a b : ℕ) → 0 < b → Near 2 (closest a b * b) a b
closest-half a b h = nearer a b (a / b) (a % b) (div-add-mod' a b) (mod-lt a h) (compare (a % b * 2) b) refl

pub closest-whole : (w b : ℕ) → 0 < b → closest (w * b) b ≡ w
closest-whole w b h =
    let q = closest (w * b) b in
    let e = closest-half (w * b) b h in
    let o : 2 * q * b ≤ (2 * w + 1) * b = omega (arith, e.over) in
    let u : 2 * w * b ≤ (2 * q + 1) * b = omega (arith, e.under) in
    omega (arith, le_of_mul-le-mul_right o h, le_of_mul-le-mul_right u h)
