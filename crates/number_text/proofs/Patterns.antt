-- Floats as q 2^k / 2^l: when two such are the same, and the bit pattern of one whose 2^l is the format's.
use Rattle.std.proofs.Common.{◌≡◌, ℕ, zero, suc, ◌+◌, ◌-◌, ◌*◌, ◌/◌, ◌%◌, ◌^◌, ◌<◌, ◌≤◌, Bool, true, false, cond, not, T, eqb, leb, pos, negsuc, sym, refl, ap, ◌∙◌, subst, ⊎_elim, le_trans, lt_of_lt_of_le, le_of_suc-le-suc, add-zero, le_of_lt, add_assoc, lt_irrefl, mul-le-mul_right, mod-lt, zero-lt-suc, mul_assoc, suc-mul, mul_comm, div-lt_iff_lt-mul, le_antisymm, mul-pos, pow-suc, mul-one, div-one, mul-div_cancel, arith, pow_pos, pow_mono, pow-add, shl_lt}
use native.Mathlib.Nat.{div-div-eq-div-mul, mul-div-mul_right, pow-succ'}
use lib.Arith.{lt_of_le-ne}
use lib.Count.{count_trailing_zeros, under}
use lib.Ieee.{Float, nan, inf, fin, Format, binary32, binary64, prec, emax, low, hid, top, up, down, minus, size, odd, fits, is_nan, of_bits, to_bits, nan_bits, ones, of_fields}
use lib.Ieee.Scale.{finite}
use lib.Ieee.Bits.{of_bits-to_bits, nan_bits_is}
use lib.Ieee.Digits.{size-lt, size-le}
use lib.Ieee.Exact.{HasValue, odd_sign}
use lib.Ieee.Fits.{odd-fits, down_pos, two, two-le_pos}
use Rattle.std.proofs.lemmas.Bool.{cases_lt, le-leb, lt-leb, eqb-false}
use Rattle.number_text.specs.Digits.{in_units, HeldUnits, IsUnits}

-- ---- trailing zeros
under_same : (r t u : ℕ) → (r ≡ 0 → t ≡ u) → under r t ≡ under r u
under_same zero t u e = ap suc (e refl)
under_same (suc r) t u e = refl

trailing_same : (a b q : ℕ) → 0 < q → q < 2 ^ a → q < 2 ^ b → count_trailing_zeros a q ≡ count_trailing_zeros b q
unfolding count_trailing_zeros
trailing_same zero b q p h k = absurd (omega arith)
trailing_same (suc a) zero q p h k = absurd (omega arith)
trailing_same (suc a) (suc b) q p h k =
    under_same (q % 2) (count_trailing_zeros a (q / 2)) (count_trailing_zeros b (q / 2))
    (λ e. trailing_same a b (q / 2) (omega arith) (omega (arith, pow-suc 2 a)) (omega (arith, pow-suc 2 b)))

trailing_double : (d q : ℕ) → 0 < q → q < 2 ^ d → count_trailing_zeros (suc d) (q * 2) ≡ suc (count_trailing_zeros (suc d) q)
unfolding count_trailing_zeros
trailing_double d q p h = step ∙ ap suc (trailing_same d (suc d) q p h (omega (arith, pow-suc 2 d)))
  where
    even : (q * 2) % 2 ≡ 0
    even = omega arith

    half : q * 2 / 2 ≡ q
    half = omega arith

    step : count_trailing_zeros (suc d) (q * 2) ≡ suc (count_trailing_zeros d q)
    step = (λ i. under (even i) (count_trailing_zeros d (half i)))

divides-none : (q : ℕ) → q / 2 ^ 0 * 2 ^ 0 ≡ q
divides-none q = mul-one (q / 1) ∙ div-one q

divides_more : (q t : ℕ) → q % 2 ≡ 0 → q / 2 / 2 ^ t * 2 ^ t ≡ q / 2 → q / 2 ^ suc t * 2 ^ suc t ≡ q
divides_more q t e h =
    let p : 2 ^ suc t ≡ 2 * 2 ^ t = pow-suc 2 t ∙ mul_comm (2 ^ t) 2 in
    let d : q / 2 ^ suc t ≡ q / 2 / 2 ^ t = ap (λ x. q / x) p ∙ sym (div-div-eq-div-mul q 2 (2 ^ t)) in
    let x = q / 2 / 2 ^ t in
    let m : x * 2 ^ suc t ≡ x * 2 ^ t * 2 = ap (λ y. x * y) (pow-suc 2 t) ∙ sym (mul_assoc x (2 ^ t) 2) in
    ap (λ y. y * 2 ^ suc t) d ∙ m ∙ ap (λ y. y * 2) h ∙ omega arith

divides-by : (q r t : ℕ) → q % 2 ≡ r → q / 2 / 2 ^ t * 2 ^ t ≡ q / 2 → q / 2 ^ under r t * 2 ^ under r t ≡ q
divides-by q zero t e h = divides_more q t e h
divides-by q (suc r) t e h = divides-none q

pub trailing_divides : (d q : ℕ) → q / 2 ^ count_trailing_zeros d q * 2 ^ count_trailing_zeros d q ≡ q
unfolding count_trailing_zeros
trailing_divides zero q = divides-none q
trailing_divides (suc d) q = divides-by q (q % 2) (count_trailing_zeros d (q / 2)) refl (trailing_divides d (q / 2))

-- ---- q 2^k / 2^l in its odd form
pub odd_pos : (d : ℕ) (s : Bool) (q k l : ℕ) → 0 < q → odd d s q k l ≡ fin s (q / 2 ^ count_trailing_zeros d q) (minus (k + count_trailing_zeros d q) l)
unfolding odd
odd_pos d s zero k l h = absurd (lt_irrefl 0 h)
odd_pos d s (suc q) k l h = refl

pub odd-zero : (d : ℕ) (s : Bool) (q k l : ℕ) → q ≡ 0 → odd d s q k l ≡ fin s 0 (pos 0)
unfolding odd
odd-zero d s zero k l e = refl
odd-zero d s (suc q) k l e = absurd (omega arith)

pub odd-same : (a b : ℕ) (s : Bool) (q k l : ℕ) → q < 2 ^ a → q < 2 ^ b → odd a s q k l ≡ odd b s q k l
odd-same a b s zero k l h i = odd-zero a s 0 k l refl ∙ sym (odd-zero b s 0 k l refl)
odd-same a b s (suc q) k l h i =
    odd_pos a s (suc q) k l (zero-lt-suc q)
    ∙ ap (λ t. fin s (suc q / 2 ^ t) (minus (k + t) l)) (trailing_same a b (suc q) (zero-lt-suc q) h i)
    ∙ sym (odd_pos b s (suc q) k l (zero-lt-suc q))

minus-level : (k l k' l' : ℕ) → k + l' ≡ k' + l → minus k l ≡ minus k' l'
minus-level k l k' l' e = ⊎_elim below above (cases_lt k l)
  where
    below : k < l → minus k l ≡ minus k' l'
    below h =
        let h' : k' < l' = omega arith in
        let n : l - suc k ≡ l' - suc k' = omega arith in
        ap (λ b. cond b (pos (k - l)) (negsuc (l - suc k))) (lt-leb l k h) ∙ ap negsuc n ∙ ap (λ b. cond b (pos (k' - l')) (negsuc (l' - suc k'))) (sym (lt-leb l' k' h'))

    above : l ≤ k → minus k l ≡ minus k' l'
    above h =
        let h' : l' ≤ k' = omega arith in
        let n : k - l ≡ k' - l' = omega arith in
        ap (λ b. cond b (pos (k - l)) (negsuc (l - suc k))) (le-leb l k h) ∙ ap pos n ∙ ap (λ b. cond b (pos (k' - l')) (negsuc (l' - suc k'))) (sym (le-leb l' k' h'))

pub odd-level : (d : ℕ) (s : Bool) (q k l k' l' : ℕ) → k + l' ≡ k' + l → odd d s q k l ≡ odd d s q k' l'
odd-level d s zero k l k' l' e = odd-zero d s 0 k l refl ∙ sym (odd-zero d s 0 k' l' refl)
odd-level d s (suc q) k l k' l' e =
    let t = count_trailing_zeros d (suc q) in
    let h : k + t + l' ≡ k' + t + l = omega arith in
    odd_pos d s (suc q) k l (zero-lt-suc q) ∙ ap (fin s (suc q / 2 ^ t)) (minus-level (k + t) l (k' + t) l' h) ∙ sym (odd_pos d s (suc q) k' l' (zero-lt-suc q))

odd_double : (d : ℕ) (s : Bool) (q k l : ℕ) → q < 2 ^ d → odd (suc d) s (q * 2) k l ≡ odd (suc d) s q (suc k) l
odd_double d s zero k l h = odd-zero (suc d) s (0 * 2) k l refl ∙ sym (odd-zero (suc d) s 0 (suc k) l refl)
odd_double d s (suc q) k l h =
    let t = count_trailing_zeros (suc d) (suc q) in
    let p : 0 < suc q * 2 = omega arith in
    let m : suc q * 2 / 2 ^ suc t ≡ suc q / 2 ^ t = ap (λ x. suc q * 2 / x) (pow-suc 2 t) ∙ mul-div-mul_right (suc q) (2 ^ t) (zero-lt-suc 1) in
    let e : k + suc t ≡ suc k + t = omega arith in
    odd_pos (suc d) s (suc q * 2) k l p
    ∙ ap (λ u. fin s (suc q * 2 / 2 ^ u) (minus (k + u) l)) (trailing_double d (suc q) (zero-lt-suc q) h)
    ∙ (λ i. fin s (m i) (minus (e i) l))
    ∙ sym (odd_pos (suc d) s (suc q) (suc k) l (zero-lt-suc q))

pub odd_shift : (d : ℕ) (s : Bool) (q j k l : ℕ) → q * 2 ^ j < 2 ^ suc d → odd (suc d) s (q * 2 ^ j) k l ≡ odd (suc d) s q (k + j) l
odd_shift d s q zero k l h = (λ i. odd (suc d) s (mul-one q i) (sym (add-zero k) i) l)
odd_shift d s q (suc j) k l h =
    let e : q * 2 ^ suc j ≡ q * 2 ^ j * 2 = ap (λ x. q * x) (pow-suc 2 j) ∙ sym (mul_assoc q (2 ^ j) 2) in
    let n : suc k + j ≡ k + suc j = omega arith in
    let small : q * 2 ^ j < 2 ^ d = omega (arith, pow-suc 2 d) in
    ap (λ x. odd (suc d) s x k l) e
    ∙ odd_double d s (q * 2 ^ j) k l small
    ∙ odd_shift d s q j (suc k) l (omega (arith, pow-suc 2 d))
    ∙ ap (λ x. odd (suc d) s q x l) n

odd_no_nan : (d : ℕ) (s : Bool) (q k l : ℕ) → is_nan (odd d s q k l) ≡ false
unfolding odd is_nan
odd_no_nan d s zero k l = refl
odd_no_nan d s (suc q) k l = refl

-- ---- the bit pattern
pub size_exact : (a n : ℕ) → 2 ^ a ≤ n → n < 2 ^ suc a → size n ≡ suc a
size_exact a n lo hi = ⊎_elim
    (λ h. le_antisymm (size-le n (suc a) hi) h)
    (λ h. absurd (lt_irrefl n (lt_of_lt_of_le (size-lt n) (le_trans (pow_mono h) lo))))
    (cases_lt a (size n))

-- n units: the digits that are kept, and the field for how many were dropped
abbrev pattern : Format → Bool → ℕ → ℕ → ℕ
pattern f s n d = cond s (top f) 0 + d * hid f + n / 2 ^ d

to_bits-value : (f : Format) (x : Float) (s : Bool) (n : ℕ) → HasValue x s n (2 ^ low f) → to_bits f x ≡ pattern f s n (size n - prec f)
unfolding to_bits
to_bits-value f nan s n v = absurd v
to_bits-value f (inf t) s n v = absurd v
to_bits-value f (fin t m e) s n v =
    let w : m * up e * 2 ^ low f / down e ≡ n = ap (λ x. x / down e) v.1 ∙ mul-div_cancel n (down_pos e) in
    (λ i. pattern f (v.0 i) (w i) (size (w i) - prec f))

module _ (p q k : ℕ) (P : 0 < p) where
  pub half : 2 ^ p ≡ 2 ^ (p - 1) * 2
  half = let e : p ≡ suc (p - 1) = omega arith in ap (λ x. 2 ^ x) e ∙ pow-suc 2 (p - 1)

  -- below the normal range, in it, and where rounding has carried into one digit more
  abbrev Kept : ℕ → Type 0
  Kept d = d * 2 ^ (p - 1) + q * 2 ^ k / 2 ^ d ≡ k * 2 ^ (p - 1) + q

  kept_low : q < 2 ^ (p - 1) → k ≡ 0 → Kept (size (q * 2 ^ k) - p)
  kept_low h e =
      let n : q * 2 ^ k ≡ q = ap (λ x. q * 2 ^ x) e ∙ mul-one q in
      let z : size (q * 2 ^ k) - p ≡ 0 = omega (arith, size-le (q * 2 ^ k) (p - 1) (subst (λ x. x < 2 ^ (p - 1)) (sym n) h)) in
      subst Kept (sym z) (ap (λ x. 0 * 2 ^ (p - 1) + x) (div-one (q * 2 ^ k) ∙ n) ∙ ap (λ x. x * 2 ^ (p - 1) + q) (sym e))

  kept-normal : 2 ^ (p - 1) ≤ q → q < 2 ^ p → Kept (size (q * 2 ^ k) - p)
  kept-normal lo hi =
      let a : p + k ≡ suc (p - 1 + k) = omega arith in
      let l : 2 ^ (p - 1 + k) ≤ q * 2 ^ k = subst (λ x. x ≤ q * 2 ^ k) (sym (pow-add 2 (p - 1) k)) (mul-le-mul_right (2 ^ k) lo) in
      let h : q * 2 ^ k < 2 ^ suc (p - 1 + k) = subst (λ x. q * 2 ^ k < 2 ^ x) a (shl_lt p k hi) in
      let z : size (q * 2 ^ k) - p ≡ k = omega (arith, size_exact (p - 1 + k) (q * 2 ^ k) l h) in
      subst Kept (sym z) (ap (λ x. k * 2 ^ (p - 1) + x) (mul-div_cancel q (pow_pos k)))

  kept_carried : q ≡ 2 ^ p → Kept (size (q * 2 ^ k) - p)
  kept_carried e =
      let n : q * 2 ^ k ≡ 2 ^ (p + k) = ap (λ x. x * 2 ^ k) e ∙ sym (pow-add 2 p k) in
      let h : q * 2 ^ k < 2 ^ suc (p + k) = omega (arith, n, pow-suc 2 (p + k), pow_pos (p + k)) in
      let z : size (q * 2 ^ k) - p ≡ suc k = omega (arith, size_exact (p + k) (q * 2 ^ k) (omega (arith, n)) h) in
      let g : q ≡ 2 ^ (p - 1) * 2 = e ∙ half in
      let d : q * 2 ^ k / 2 ^ suc k ≡ 2 ^ (p - 1) =
      (λ i. (ap (λ x. x * 2 ^ k) g ∙ mul_assoc (2 ^ (p - 1)) 2 (2 ^ k) ∙ ap (λ x. 2 ^ (p - 1) * x) (sym (pow-succ' 2 k))) i / 2 ^ suc k) ∙ mul-div_cancel (2 ^ (p - 1)) (pow_pos (suc k)) in
      subst Kept (sym z) (ap (λ x. suc k * 2 ^ (p - 1) + x) d ∙ omega (arith, g, suc-mul k (2 ^ (p - 1))))

  kept : q ≤ 2 ^ p → (0 < k → 2 ^ (p - 1) ≤ q) → Kept (size (q * 2 ^ k) - p)
  kept h normal = ⊎_elim
      (λ l. kept_low l (⊎_elim (λ z. absurd (lt_irrefl q (lt_of_lt_of_le l (normal z)))) (λ z. omega arith) (cases_lt 0 k)))
      (λ l. ⊎_elim (λ m. kept-normal l m) (λ m. kept_carried (le_antisymm h m)) (cases_lt q (2 ^ p)))
      (cases_lt q (2 ^ (p - 1)))

pub units_small : (f : Format) (q : ℕ) → q ≤ 2 ^ prec f → q < 2 ^ 64
units_small binary32 q h = omega arith
units_small binary64 q h = omega arith

module _ (f : Format) (s : Bool) (q k : ℕ) (u : HeldUnits f q k) where
  pub units-fit : T (fits f (in_units f s q k))
  units-fit = odd-fits f 64 s q k (units_small f q u.digits) u.digits u.finite

  to_bits-units : to_bits f (in_units f s q k) ≡ cond s (top f) 0 + (k * hid f + q)
  to_bits-units =
      let c = cond s (top f) 0 in
      let d = size (q * 2 ^ k) - prec f in
      to_bits-value f (in_units f s q k) s (q * 2 ^ k) (odd_sign 64 s q k (low f))
      ∙ add_assoc c (d * hid f) (q * 2 ^ k / 2 ^ d)
      ∙ ap (λ y. c + y) (kept (prec f) q k (two-le_pos (prec f) (two f)) u.digits u.normal)

  module _ (b : ℕ) (b-is : b ≡ cond s (top f) 0 + (k * hid f + q)) where
    pub units-pattern : of_bits f b ≡ in_units f s q k
    units-pattern = ap (of_bits f) (b-is ∙ sym to_bits-units) ∙ of_bits-to_bits f (in_units f s q k) units-fit

    pub units_no_nan : T (not (nan_bits f b))
    units_no_nan = subst (λ t. T (not t)) (sym (nan_bits_is f b ∙ ap is_nan units-pattern ∙ odd_no_nan 64 s q k (low f))) tt

-- ---- what a pattern says of a finite value
finite_field : (f : Format) (s : Bool) (y t : ℕ) → T (finite (of_fields f s (suc y) t)) → (suc y ≡ ones f → ⊥) × (of_fields f s (suc y) t ≡ odd (prec f) s (hid f + t) y (low f))
unfolding of_fields
finite_field f s y t = by (eqb (suc y) (ones f)) refl (eqb t 0)
  where
    by : (b : Bool) → eqb (suc y) (ones f) ≡ b → (z : Bool) → T (finite (cond b (cond z (inf s) nan) (odd (prec f) s (hid f + t) y (low f)))) → (suc y ≡ ones f → ⊥) × (cond b (cond z (inf s) nan) (odd (prec f) s (hid f + t) y (low f)) ≡ odd (prec f) s (hid f + t) y (low f))
    by true e true h = absurd h
    by true e false h = absurd h
    by false e z h = (eqb-false (suc y) (ones f) e, refl)

fields_zero : (f : Format) (s : Bool) (t : ℕ) → of_fields f s 0 t ≡ odd (prec f) s t 0 (low f)
unfolding of_fields
fields_zero f s t = refl

with_lead : (f : Format) (t : ℕ) → t < hid f → hid f + t < 2 ^ prec f
with_lead f t h = omega (arith, half (prec f) 0 0 (two-le_pos (prec f) (two f)))

prec_small : (f : Format) (q : ℕ) → q < 2 ^ prec f → q < 2 ^ 64
prec_small f q h = units_small f q (le_of_lt h)

pub some-place : (f : Format) → 0 < 2 * emax f
some-place binary32 = omega arith
some-place binary64 = omega arith

fields_low : (f : Format) (x : Float) (s : Bool) (y t : ℕ) → t < hid f → y ≡ 0 → x ≡ of_fields f s y t → IsUnits f x s t 0
fields_low f x s y t h z e =
    let small : t < 2 ^ prec f = omega (arith, with_lead f t h) in
    record { is = e ∙ ap (λ y. of_fields f s y t) z ∙ fields_zero f s t ∙ odd-same (prec f) 64 s t 0 (low f) small (prec_small f t small); digits = small; place = some-place f }

fields_high : (f : Format) (x : Float) (s : Bool) (y t : ℕ) → t < hid f → (y ≡ 0 → ⊥) → y ≤ ones f → T (finite x) → x ≡ of_fields f s y t → IsUnits f x s (hid f + t) (y - 1)
fields_high f x s zero t h z l n e = absurd (z refl)
fields_high f x s (suc y) t h z l n e =
    let w = finite_field f s y t (subst (λ v. T (finite v)) e n) in
    let small = with_lead f t h in
    let k : y ≡ suc y - 1 = omega arith in
    let lt : y < 2 * emax f = omega (arith, lt_of_le-ne l w.0) in
    subst (IsUnits f x s (hid f + t)) k
    record { is = e ∙ w.1 ∙ odd-same (prec f) 64 s (hid f + t) y (low f) small (prec_small f (hid f + t) small); digits = small; place = lt }

of_bits_fields : (f : Format) (b : ℕ) → of_bits f b ≡ of_fields f (leb (top f) b) (b % top f / hid f) (b % hid f)
unfolding of_bits
of_bits_fields f b = refl

pub has_pattern : (f : Format) (x : Float) → T (fits f x) → (b : ℕ) → b ≡ to_bits f x → x ≡ of_bits f b
has_pattern f x q b e = sym (ap (of_bits f) e ∙ of_bits-to_bits f x q)

module _ (f : Format) (x : Float) (b : ℕ) (is : x ≡ of_bits f b) where
  at_low : b % top f / hid f ≡ 0 → IsUnits f x (leb (top f) b) (b % hid f) 0
  at_low z = fields_low f x (leb (top f) b) (b % top f / hid f) (b % hid f) (mod-lt b (pow_pos (prec f - 1))) z (is ∙ of_bits_fields f b)

  at_high : (b % top f / hid f ≡ 0 → ⊥) → T (finite x) → IsUnits f x (leb (top f) b) (hid f + b % hid f) (b % top f / hid f - 1)
  at_high z n =
      let H : 0 < hid f = pow_pos (prec f - 1) in
      let field : b % top f / hid f < suc (ones f) = (div-lt_iff_lt-mul H).1 (subst (λ m. b % top f < m) (mul_comm (hid f) (suc (ones f))) (mod-lt b (mul-pos H (zero-lt-suc (ones f))))) in
      fields_high f x (leb (top f) b) (b % top f / hid f) (b % hid f) (mod-lt b H) z (le_of_suc-le-suc field) n (is ∙ of_bits_fields f b)

  -- with what the code has for the sign's bit and the field's weight
  module _ (t h : ℕ) (t-is : t ≡ top f) (h-is : h ≡ hid f) where
    pub units-low : b % t / h ≡ 0 → IsUnits f x (leb t b) (b % h) 0
    units-low = subst (λ u. b % u / h ≡ 0 → IsUnits f x (leb u b) (b % h) 0) (sym t-is) (subst (λ v. b % top f / v ≡ 0 → IsUnits f x (leb (top f) b) (b % v) 0) (sym h-is) at_low)

    pub units-high : (b % t / h ≡ 0 → ⊥) → T (finite x) → IsUnits f x (leb t b) (h + b % h) (b % t / h - 1)
    units-high =
        subst (λ u. (b % u / h ≡ 0 → ⊥) → T (finite x) → IsUnits f x (leb u b) (h + b % h) (b % u / h - 1)) (sym t-is)
        (subst (λ v. (b % top f / v ≡ 0 → ⊥) → T (finite x) → IsUnits f x (leb (top f) b) (v + b % v) (b % top f / v - 1)) (sym h-is) at_high)

pub finite_no_nan : (x : Float) → T (finite x) → T (not (is_nan x))
unfolding is_nan
finite_no_nan nan h = h
finite_no_nan (inf s) h = tt
finite_no_nan (fin s m e) h = tt
