-- The error of a sum of products, added one by one, each product and each sum rounded, in integers.
-- P is the exact sum of t products, W the sum of their magnitudes, S the value that was computed.
use Rattle.std.proofs.Common.{◌≡◌, ℕ, zero, suc, ◌+◌, ◌-◌, ◌*◌, ◌<◌, ◌≤◌, ℤ, ◌+ℤ◌, ◌-ℤ◌, nat_abs, le_trans, not-suc-le-zero, mul-le-mul_right, zero-lt-suc, mul-le-mul_left, mul-pos, arith}
use native.Mathlib.Nat.{le_of_mul-le-mul_left}
use Rattle.std.proofs.lemmas.Int.{ints}

pub record Summed (N t : ℕ) (P : ℤ) (W : ℕ) (S : ℤ) : Type 0 where
  pub near : (N - t) * nat_abs (P -ℤ S) ≤ t * W
  pub within : nat_abs P ≤ W

-- the first product Q, rounded to S
pub summed_first : (N : ℕ) (Q S : ℤ) → N * nat_abs (Q -ℤ S) ≤ nat_abs Q → Summed N 1 Q (nat_abs Q) S
summed_first N Q S h =
    let fewer : (N - 1) * nat_abs (Q -ℤ S) ≤ N * nat_abs (Q -ℤ S) = mul-le-mul_right (nat_abs (Q -ℤ S)) (omega arith) in
    record { near = omega arith; within = omega arith }

-- N is suc d + suc u, the count suc u; E and E' are the errors before and after, W the magnitudes before, Q the new product's
last_cancelled : (d u E E' W Q : ℕ) → suc d * E ≤ suc u * W → (d + suc u) * E' ≤ (suc d + suc u) * E + W + 2 * Q → d * E' ≤ (suc u + 1) * (W + Q)
last_cancelled d u E E' W Q near step =
    let k = suc d * (d + suc u) in
    let a = mul-le-mul_left (d * suc d) step in
    let b = mul-le-mul_left (d * (suc d + suc u)) near in
    let h : k * (d * E') ≤ k * ((suc u + 1) * (W + Q)) = omega (arith, a, b) in
    let some : 0 < d + suc u = omega arith in
    le_of_mul-le-mul_left h (mul-pos (zero-lt-suc d) some)

-- e and s are the errors of the new product and the new sum, V the new value
sum_bound : (d t E E' e s W Q V : ℕ) → 1 ≤ t → suc d * E ≤ t * W → (suc d + t) * e ≤ Q → (suc d + t) * s ≤ V → V ≤ W + Q + E' → E' ≤ E + e + s → d * E' ≤ (t + 1) * (W + Q)
sum_bound d (suc u) E E' e s W Q V some near product sum value error =
    last_cancelled d u E E' W Q near (omega (arith, mul-le-mul_left (suc d + suc u) error))
sum_bound d zero E E' e s W Q V some near product sum value error = absurd (not-suc-le-zero some)

parts : (P Q S q S' : ℤ) → (P +ℤ Q) -ℤ S' ≡ (P -ℤ S) +ℤ (Q -ℤ q) +ℤ (S +ℤ q -ℤ S')
parts P Q S q S' = omega (arith, ints)

three : (a b c : ℤ) → nat_abs (a +ℤ b +ℤ c) ≤ nat_abs a + nat_abs b + nat_abs c
three a b c = omega (arith, ints)

value-within : (P S : ℤ) → nat_abs S ≤ nat_abs P + nat_abs (P -ℤ S)
value-within P S = omega (arith, ints)

two : (P Q : ℤ) → nat_abs (P +ℤ Q) ≤ nat_abs P + nat_abs Q
two P Q = omega (arith, ints)

-- one product more, Q, rounded to q, and added with a rounding
pub summed_step : {N t : ℕ} {P : ℤ} {W : ℕ} {S : ℤ} (Q q S' : ℤ) → 1 ≤ t → t < N → Summed N t P W S → N * nat_abs (Q -ℤ q) ≤ nat_abs Q → N * nat_abs (S +ℤ q -ℤ S') ≤ nat_abs S'
    → Summed N (t + 1) (P +ℤ Q) (W + nat_abs Q) S'
summed_step {N} {t} {P} {W} {S} Q q S' some few before product sum =
    let d = N - (t + 1) in
    let whole : suc d + t ≡ N = omega arith in
    let above : suc d ≡ N - t = omega arith in
    let E' = nat_abs ((P +ℤ Q) -ℤ S') in
    let near : suc d * nat_abs (P -ℤ S) ≤ t * W = rw above before.near in
    let p : (suc d + t) * nat_abs (Q -ℤ q) ≤ nat_abs Q = rw whole product in
    let s : (suc d + t) * nat_abs (S +ℤ q -ℤ S') ≤ nat_abs S' = rw whole sum in
    let total : nat_abs (P +ℤ Q) ≤ W + nat_abs Q = le_trans (two P Q) (omega (arith, before.within)) in
    let value : nat_abs S' ≤ W + nat_abs Q + E' = le_trans (value-within (P +ℤ Q) S') (omega arith) in
    let error : E' ≤ nat_abs (P -ℤ S) + nat_abs (Q -ℤ q) + nat_abs (S +ℤ q -ℤ S') = rw (parts P Q S q S') (three (P -ℤ S) (Q -ℤ q) (S +ℤ q -ℤ S')) in
    record {
      near = sum_bound d t (nat_abs (P -ℤ S)) E' (nat_abs (Q -ℤ q)) (nat_abs (S +ℤ q -ℤ S')) W (nat_abs Q) (nat_abs S') some near p s value error;
      within = total;
    }
