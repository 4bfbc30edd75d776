-- A fraction n / c rounded to p binary digits of its whole part (`kept * 2 ^ drop`, which is what the logic library's `round` keeps of it) is near the fraction:
-- by one part in 2^p if the whole part has p digits at least, and exactly if the fraction is whole. Nothing here is about floats.
use Rattle.std.proofs.Common.{◌≡◌, ℕ, zero, suc, ◌+◌, ◌-◌, ◌*◌, ◌/◌, ◌%◌, ◌^◌, ◌<◌, ◌≤◌, sym, ap, ◌∙◌, inl, inr, le_trans, le_of_eq, not-suc-le-zero, le_of_lt, mul-le-mul_right, mul_assoc, div-lt_iff_lt-mul, mul-pos, one-mul, le-div_iff_mul-le, mul-one, sub-add_cancel, mul-div_cancel, arith, pow_pos, pow_mono, pow-add, shl_lt}
use Prim.Native.Nat.{compare}
use native.Mathlib.Nat.{pow-succ'}
use lib.Ieee.{size as digits}
use lib.Ieee.Digits.{size-le, size_reaches}
use lib.Ieee.Nearest.{closest, closest_mono, nearest-ge}
use lib.Ieee.Order.{drop, kept}
use Rattle.std.proofs.lemmas.Bool.{cases_lt}
use Rattle.exact.proofs.Near.{Near, Relative, closest-half, closest-whole, near_within, near_finer, relative_same}

-- n / c, rounded
abbrev pub rounded : ℕ → ℕ → ℕ → ℕ
rounded p n c = kept p n c * 2 ^ drop p n c

-- p + 1 digits are kept, of a whole part that has them
module _ (p n c : ℕ) (C : 0 < c) (full : suc p ≤ digits (n / c)) where
  -- the leading digit stands at or above p places of the divisor
  leading : 2 ^ p * (c * 2 ^ drop (suc p) n c) ≤ n
  leading =
      let k = drop (suc p) n c in
      let lt : p + k < digits (n / c) = omega arith in
      let a : 2 ^ (p + k) * c ≤ n = (le-div_iff_mul-le C).0 (size_reaches (n / c) (p + k) lt) in
      let e : 2 ^ p * (c * 2 ^ k) ≡ 2 ^ (p + k) * c = rw (pow-add 2 p k) (omega arith) in
      le_trans (le_of_eq e) a

  kept-leading : 2 ^ p ≤ kept (suc p) n c
  kept-leading =
      let u = c * 2 ^ drop (suc p) n c in
      let U : 0 < u = mul-pos C (pow_pos (drop (suc p) n c)) in
      le_trans ((le-div_iff_mul-le U).1 leading) (nearest-ge (n / u) (compare (n % u * 2) u))

  near-divisor : Near (2 * 2 ^ p) (rounded (suc p) n c * c) n (2 ^ p * (c * 2 ^ drop (suc p) n c))
  near-divisor =
      let k = drop (suc p) n c in
      let e = near_finer (2 ^ p) (closest-half n (c * 2 ^ k) (mul-pos C (pow_pos k))) in
      record { over = omega (arith, e.over); under = omega (arith, e.under) }

  rounded_full : Relative (2 ^ suc p) (rounded (suc p) n c * c) n
  rounded_full =
      let k = drop (suc p) n c in
      let l : 2 ^ p * (c * 2 ^ k) ≤ rounded (suc p) n c * c = omega (arith, mul-le-mul_right (c * 2 ^ k) kept-leading) in
      rw (pow-succ' 2 p) (record { of_left = near_within l near-divisor; of_right = near_within leading near-divisor })

-- a whole part of p digits at least
pub rounded-near : (p n c : ℕ) → 0 < p → 0 < c → p ≤ digits (n / c) → Relative (2 ^ p) (rounded p n c * c) n
rounded-near zero n c P C full = absurd (not-suc-le-zero P)
rounded-near (suc p) n c P C full = rounded_full p n c C full

-- a whole number of fewer than p digits is kept
rounded-few : (p w c : ℕ) → 0 < c → digits (w * c / c) < p → rounded p (w * c) c ≡ w
rounded-few p w c C few =
    let none : drop p (w * c) c ≡ 0 = omega arith in
    ap (λ (k : ℕ). closest (w * c) (c * 2 ^ k) * 2 ^ k) none
    ∙ mul-one (closest (w * c) (c * 1))
    ∙ ap (closest (w * c)) (mul-one c)
    ∙ closest-whole w c C

-- a whole number of any magnitude
pub rounded-whole : (p w c : ℕ) → 0 < p → 0 < c → Relative (2 ^ p) (rounded p (w * c) c * c) (w * c)
rounded-whole p w c P C =
    elim (cases_lt (digits (w * c / c)) p) [
      | inl few ↦ rw (rounded-few p w c C few) (relative_same (2 ^ p) (w * c))
      | inr full ↦ rounded-near p (w * c) c P C full
    ]

-- a fraction of at most 2 ^ l
pub rounded-le : (p l n c : ℕ) → 0 < p → 0 < c → n ≤ 2 ^ l * c → rounded p n c ≤ 2 ^ l
rounded-le p l n c P C h =
    let k = drop p n c in
    let small : n < 2 ^ suc l * c = rw (pow-succ' 2 l) (omega (arith, mul-pos (pow_pos l) C)) in
    let fewer : k ≤ l = omega (arith, size-le (n / c) (suc l) ((div-lt_iff_lt-mul C).1 small)) in
    let split : 2 ^ l ≡ 2 ^ (l - k) * 2 ^ k = ap (λ (j : ℕ). 2 ^ j) (sym (sub-add_cancel fewer)) ∙ pow-add 2 (l - k) k in
    let below : n * 2 ^ k ≤ 2 ^ (l - k) * 2 ^ k * (c * 2 ^ k) = rw (← split) (omega (arith, mul-le-mul_right (2 ^ k) h)) in
    let kept-le : kept p n c ≤ 2 ^ (l - k) =
    rw (closest-whole (2 ^ (l - k)) (2 ^ k) (pow_pos k)) at
    (closest_mono n (c * 2 ^ k) (2 ^ (l - k) * 2 ^ k) (2 ^ k) (mul-pos C (pow_pos k)) (pow_pos k) below) in
    rw split (mul-le-mul_right (2 ^ k) kept-le)

-- a fraction of at least 2 ^ l
pub rounded_ge : (p l n c : ℕ) → 0 < p → 0 < c → 2 ^ l * c ≤ n → 2 ^ l ≤ rounded p n c
rounded_ge zero l n c P C h = absurd (not-suc-le-zero P)
rounded_ge (suc p) l n c P C h =
    let k = drop (suc p) n c in
    elim (cases_lt l k) [
      | inl more ↦ (
          let full : suc p ≤ digits (n / c) = omega arith in
          let some : 1 ≤ kept (suc p) n c = le_trans (pow_pos p) (kept-leading p n c C full) in
          let lower : 1 * 2 ^ k ≤ rounded (suc p) n c = mul-le-mul_right (2 ^ k) some in
          le_trans (pow_mono (le_of_lt more)) (le_trans (le_of_eq (sym (one-mul (2 ^ k)))) lower))
      | inr fewer ↦ (
          let split : 2 ^ l ≡ 2 ^ (l - k) * 2 ^ k = ap (λ (j : ℕ). 2 ^ j) (sym (sub-add_cancel fewer)) ∙ pow-add 2 (l - k) k in
          let above : 2 ^ (l - k) * 2 ^ k * (c * 2 ^ k) ≤ n * 2 ^ k = rw (← split) (omega (arith, mul-le-mul_right (2 ^ k) h)) in
          let kept-ge : 2 ^ (l - k) ≤ kept (suc p) n c =
          rw (closest-whole (2 ^ (l - k)) (2 ^ k) (pow_pos k)) at
          (closest_mono (2 ^ (l - k) * 2 ^ k) (2 ^ k) n (c * 2 ^ k) (pow_pos k) (mul-pos C (pow_pos k)) above) in
          rw split (mul-le-mul_right (2 ^ k) kept-ge))
    ]

-- m * 2 ^ j, with an m of at most p digits
pub rounded-exact : (p m j c : ℕ) → 0 < c → m < 2 ^ p → rounded p (m * 2 ^ j * c) c ≡ m * 2 ^ j
rounded-exact p m j c C small =
    let w = m * 2 ^ j in
    let k = drop p (w * c) c in
    let size : digits (w * c / c) ≤ p + j = rw (mul-div_cancel w C) (size-le w (p + j) (shl_lt p j small)) in
    let fewer : k ≤ j = omega arith in
    let split : 2 ^ j ≡ 2 ^ (j - k) * 2 ^ k = ap (λ i. 2 ^ i) (sym (sub-add_cancel fewer)) ∙ pow-add 2 (j - k) k in
    let whole : w * c ≡ m * 2 ^ (j - k) * (c * 2 ^ k) = ap (λ x. m * x * c) split ∙ omega arith in
    ap (λ x. closest x (c * 2 ^ k) * 2 ^ k) whole
    ∙ ap (λ x. x * 2 ^ k) (closest-whole (m * 2 ^ (j - k)) (c * 2 ^ k) (mul-pos C (pow_pos k)))
    ∙ mul_assoc m (2 ^ (j - k)) (2 ^ k)
    ∙ ap (λ x. m * x) (sym split)
