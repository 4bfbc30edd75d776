-- The decimal form: m / den rounded to a format, from whole numbers that keep as many digits as the format does.
use Rattle.std.proofs.Common.{◌≡◌, ℕ, suc, ltb, add-zero, mod-eq_of_lt, ◌+◌, ◌-◌, ◌*◌, ◌/◌, ◌%◌, ◌^◌, ◌<◌, ◌≤◌, Bool, cond, pos, sym, refl, ap, ◌∙◌, subst, ⊎_elim, le_trans, le_of_eq, lt_of_le_of_lt, mul-le-mul_right, mul_assoc, div-lt_iff_lt-mul, lt_of_mul-lt-mul_right, mul-lt-mul_of_pos_right, mul-pos, pow-suc, le-div_iff_mul-le, zero-mul, le_of_mul-le-mul_right, mul_left_comm, arith, lit<, pow_pos, pow_mono, pow-add, shl_lt, shl_exact}
use Prim.Native.Nat.{compare}
use native.Mathlib.Nat.{pow-succ'}
use mir.Val.{bool_byte}
use lib.Count.{count_leading_zeros, leading_top}
use lib.Pow.{pow-lt}
use lib.Ieee.{Float, inf, fin, Format, binary32, binary64, prec, emax, low, hid, size, odd, units, round}
use lib.Ieee.Fits.{core, round_is, two, two-le_pos, nearest-le}
use lib.Ieee.Nearest.{closest, closest_same, nearest-ge}
use lib.Ieee.Scale.{round_same}
use Rattle.std.proofs.lemmas.Bool.{cases_lt, lt-ltb, le-ltb}
use Rattle.number_text.specs.Digits.{in_units, HeldUnits}
use Rattle.number_text.proofs.Patterns.{odd-same, odd-zero, units_small, size_exact}
use Rattle.number_text.proofs.Exactly.{prec_small}

emax_large : (f : Format) → 100 < emax f
emax_large binary32 = omega arith
emax_large binary64 = omega arith

-- ---- m moved up to as many digits as a larger number has
pow_below : (i j n : ℕ) → 2 ^ i ≤ n → n < 2 ^ j → i < j
pow_below i j n lo hi = ⊎_elim (λ h. h) (λ h. absurd (omega (arith, pow_mono h))) (cases_lt i j)

module _ (m full : ℕ) (M : 0 < m) (h : m < full) (F : full < 2 ^ 102) where
  abbrev level : ℕ
  level = count_leading_zeros 128 m - count_leading_zeros 128 full

  pub levelled : (count_leading_zeros 128 full ≤ count_leading_zeros 128 m) × (level < 102) × (m * 2 ^ level < 2 * full) × (full < 2 * (m * 2 ^ level))
  levelled =
      let a = leading_top 128 m M (omega arith) in
      let b = leading_top 128 full (omega arith) (omega arith) in
      let below : a.0 < suc b.0 = pow_below a.0 (suc b.0) full (omega arith) b.3 in
      let short : b.0 < 102 = pow_below b.0 102 full b.2 F in
      let d : level ≡ b.0 - a.0 = omega arith in
      let e : a.0 + (b.0 - a.0) ≡ b.0 = omega arith in
      let lo : 2 ^ b.0 ≤ m * 2 ^ level = subst (λ x. 2 ^ x ≤ m * 2 ^ level) e (subst (λ x. 2 ^ (a.0 + x) ≤ m * 2 ^ level) d (subst (λ x. x ≤ m * 2 ^ level) (sym (pow-add 2 a.0 level)) (mul-le-mul_right (2 ^ level) a.2))) in
      let hi : m * 2 ^ level < 2 ^ suc b.0 = subst (λ x. m * 2 ^ level < 2 ^ x) (omega arith) (shl_lt (suc a.0) level a.3) in
      let p = pow-suc 2 b.0 in
      (omega arith, omega arith, omega arith, omega arith)

  -- and by one more if it is still less
  module _ (t place : ℕ) (e : t ≡ bool_byte (ltb (m * 2 ^ level % 2 ^ 128) full)) (P : 102 ≤ place) where
    whole : m * 2 ^ level % 2 ^ 128 ≡ m * 2 ^ level
    whole = mod-eq_of_lt (omega (arith, levelled))

    pub doubled : (level + t ≤ 102) × (full ≤ m * 2 ^ (level + t)) × (m * 2 ^ (level + t) < 2 * full)
    doubled = ⊎_elim less enough (cases_lt (m * 2 ^ level) full)
      where
        less : m * 2 ^ level < full → (level + t ≤ 102) × (full ≤ m * 2 ^ (level + t)) × (m * 2 ^ (level + t) < 2 * full)
        less l =
            let one : t ≡ 1 = e ∙ ap (λ x. bool_byte (ltb x full)) whole ∙ ap bool_byte (lt-ltb _ full l) in
            let twice : m * 2 ^ (level + t) ≡ 2 * (m * 2 ^ level) = ap (λ x. m * 2 ^ (level + x)) one ∙ ap (λ x. m * x) (pow-add 2 level 1) ∙ omega arith in
            (omega (arith, levelled), omega (arith, levelled), omega arith)

        enough : full ≤ m * 2 ^ level → (level + t ≤ 102) × (full ≤ m * 2 ^ (level + t)) × (m * 2 ^ (level + t) < 2 * full)
        enough l =
            let none : t ≡ 0 = e ∙ ap (λ x. bool_byte (ltb x full)) whole ∙ ap bool_byte (le-ltb _ full l) in
            let same : m * 2 ^ (level + t) ≡ m * 2 ^ level = ap (λ x. m * 2 ^ (level + x)) none ∙ ap (λ x. m * 2 ^ x) (add-zero level) in
            (omega (arith, levelled), omega arith, omega (arith, levelled))

    pub shifted : (full ≤ m * 2 ^ (level + t) % 2 ^ 128) × (m * 2 ^ (level + t) % 2 ^ 128 < 2 * full) × (m * 2 ^ (level + t) % 2 ^ 128 * 2 ^ (place - (level + t)) ≡ m * 2 ^ place) × (place - (level + t) ≤ place)
    shifted =
        let fits : m * 2 ^ (level + t) % 2 ^ 128 ≡ m * 2 ^ (level + t) = mod-eq_of_lt (omega (arith, doubled)) in
        let sum : level + t + (place - (level + t)) ≡ place = omega (arith, doubled) in (
          omega (arith, doubled),
          omega (arith, doubled),
          ap (λ x. x * 2 ^ (place - (level + t))) fits ∙ mul_assoc m (2 ^ (level + t)) (2 ^ (place - (level + t))) ∙ ap (λ x. m * x) (sym (pow-add 2 (level + t) (place - (level + t))) ∙ ap (λ x. 2 ^ x) sum),
          omega arith,
        )

units-held : (f : Format) (s : Bool) (q k : ℕ) → HeldUnits f q k → units f s q k ≡ in_units f s q k
unfolding units
units-held f s q k u =
    ap (λ b. cond b (odd (suc (prec f)) s q k (low f)) (inf s)) (lt-ltb (q * 2 ^ k) (2 ^ (low f + suc (emax f))) u.finite)
    ∙ odd-same (suc (prec f)) 64 s q k (low f) (lt_of_le_of_lt u.digits (omega (arith, pow-suc 2 (prec f), pow_pos (prec f)))) (units_small f q u.digits)

-- ---- n over u is m 2^low over den 2^k, and has as many digits before the point as the format keeps
module _ (f : Format) (s : Bool) (m den n u k : ℕ) (D : 0 < den) (U : 0 < u) (same : n * (den * 2 ^ k) ≡ m * 2 ^ low f * u) (lo : hid f * u ≤ n) (hi : n < 2 ^ prec f * u) where
  size_is : size (m * 2 ^ low f / den) ≡ prec f + k
  size_is =
      let P = two-le_pos (prec f) (two f) in
      let a : suc (prec f - 1 + k) ≡ prec f + k = omega arith in
      let N = m * 2 ^ low f in
      let F : 0 < den * 2 ^ k = mul-pos D (pow_pos k) in
      let below : 2 ^ (prec f - 1 + k) * den ≤ N =
      le_of_mul-le-mul_right (subst (λ x. x ≤ N * u) (ap (λ x. x * den * u) (sym (pow-add 2 (prec f - 1) k))) (le_trans (le_of_eq (swap (hid f) (2 ^ k))) (subst (λ x. hid f * u * (den * 2 ^ k) ≤ x) same (mul-le-mul_right (den * 2 ^ k) lo)))) U in
      let above : N < 2 ^ (prec f + k) * den =
      lt_of_mul-lt-mul_right u (subst (λ x. N * u < x) (sym (swap (2 ^ prec f) (2 ^ k)) ∙ ap (λ x. x * den * u) (sym (pow-add 2 (prec f) k))) (subst (λ x. x < 2 ^ prec f * u * (den * 2 ^ k)) same (mul-lt-mul_of_pos_right hi F))) in
      size_exact (prec f - 1 + k) (N / den) ((le-div_iff_mul-le D).1 below) (subst (λ x. N / den < 2 ^ x) (sym a) ((div-lt_iff_lt-mul D).1 above)) ∙ a
    where
      swap : (x y : ℕ) → x * y * den * u ≡ x * u * (den * y)
      swap x y = omega arith

  round-quotient : round f s m den ≡ units f s (closest n u) k
  round-quotient =
      let z : size (m * 2 ^ low f / den) - prec f ≡ k = omega (arith, size_is) in
      round_is f s m den
      ∙ ap (core f s (m * 2 ^ low f) den) z
      ∙ ap (λ q. units f s q k) (closest_same (m * 2 ^ low f) (den * 2 ^ k) n u (mul-pos D (pow_pos k)) U (sym same))

  closest-digits : closest n u ≤ 2 ^ prec f
  closest-digits = le_trans (nearest-le (n / u) (compare (n % u * 2) u)) ((div-lt_iff_lt-mul U).1 hi)

  closest-normal : hid f ≤ closest n u
  closest-normal = le_trans ((le-div_iff_mul-le U).1 lo) (nearest-ge (n / u) (compare (n % u * 2) u))

  module _ (low-place : prec f + k ≤ low f + 53) where
    quotient-finite : closest n u * 2 ^ k < 2 ^ (low f + suc (emax f))
    quotient-finite =
        let e : prec f + k < low f + suc (emax f) = omega (arith, emax_large f) in
        lt_of_le_of_lt (mul-le-mul_right (2 ^ k) closest-digits) (subst (λ x. x < 2 ^ (low f + suc (emax f))) (pow-add 2 (prec f) k) (pow-lt e))

    quotient-held : HeldUnits f (closest n u) k
    quotient-held = record { digits = closest-digits; normal = λ h. closest-normal; place = omega (arith, emax_large f, two f); finite = quotient-finite }

    quotient_is : (x : Float) → x ≡ in_units f s (closest n u) k → x ≡ round f s m den
    quotient_is x e = e ∙ sym (units-held f s (closest n u) k quotient-held) ∙ sym round-quotient

-- ---- the numbers of the code: full = den 2^52, and a unit of den 2^spare, as 128-bit shifts
module _ (f : Format) (m den n k spare : ℕ) (D : 0 < den) (B : den ≤ 10 ^ 15) (S : spare ≡ 53 - prec f) (e : n * 2 ^ k ≡ m * 2 ^ (low f + spare)) where
  unit-is : den * 2 ^ spare % 2 ^ 128 ≡ den * 2 ^ spare
  unit-is = shl_exact {a = den} 50 spare 128 (omega arith) (omega arith)

  unit-pos : 0 < den * 2 ^ spare % 2 ^ 128
  unit-pos = subst (λ x. 0 < x) (sym unit-is) (mul-pos D (pow_pos spare))

  unit-same : n * (den * 2 ^ k) ≡ m * 2 ^ low f * (den * 2 ^ spare % 2 ^ 128)
  unit-same =
      mul_left_comm n den (2 ^ k) ∙ ap (λ x. den * x) e
      ∙ ap (λ x. den * (m * x)) (pow-add 2 (low f) spare)
      ∙ omega arith
      ∙ ap (λ x. m * 2 ^ low f * x) (sym unit-is)

  -- the format's digits and the spare ones are 53
  times_unit : (j : ℕ) → j + spare ≡ 52 → 2 ^ j * (den * 2 ^ spare % 2 ^ 128) ≡ den * 2 ^ 52
  times_unit j h = ap (λ x. 2 ^ j * x) unit-is ∙ mul_left_comm (2 ^ j) den (2 ^ spare) ∙ ap (λ x. den * x) (sym (pow-add 2 j spare) ∙ ap (λ x. 2 ^ x) h)

  unit-low : den * 2 ^ 52 % 2 ^ 128 ≤ n → hid f * (den * 2 ^ spare % 2 ^ 128) ≤ n
  unit-low h = subst (λ x. x ≤ n) (sym (times_unit (prec f - 1) (omega (arith, two f, prec_small f)))) (omega arith)

  unit-high : n < 2 * (den * 2 ^ 52 % 2 ^ 128) → n < 2 ^ prec f * (den * 2 ^ spare % 2 ^ 128)
  unit-high h =
      let g : prec f ≡ suc (prec f - 1) = omega (arith, two f) in
      let t : 2 ^ prec f * (den * 2 ^ spare % 2 ^ 128) ≡ 2 * (den * 2 ^ 52) =
      ap (λ x. x * (den * 2 ^ spare % 2 ^ 128)) (ap (λ x. 2 ^ x) g ∙ pow-succ' 2 (prec f - 1)) ∙ mul_assoc 2 (2 ^ (prec f - 1)) (den * 2 ^ spare % 2 ^ 128)
      ∙ ap (λ x. 2 * x) (times_unit (prec f - 1) (omega (arith, two f, prec_small f))) in
      subst (λ x. n < x) (sym t) (omega arith)

  module _ (s : Bool) (lo : den * 2 ^ 52 % 2 ^ 128 ≤ n) (hi : n < 2 * (den * 2 ^ 52 % 2 ^ 128)) (P : k ≤ low f + spare) where
    place-low : prec f + k ≤ low f + 53
    place-low = omega (arith, prec_small f)

    pub shifted_held : HeldUnits f (closest n (den * 2 ^ spare % 2 ^ 128)) k
    shifted_held = quotient-held f s m den n (den * 2 ^ spare % 2 ^ 128) k D unit-pos unit-same (unit-low lo) (unit-high hi) place-low

    pub shifted_is : (x : Float) → x ≡ in_units f s (closest n (den * 2 ^ spare % 2 ^ 128)) k → x ≡ round f s m den
    shifted_is = quotient_is f s m den n (den * 2 ^ spare % 2 ^ 128) k D unit-pos unit-same (unit-low lo) (unit-high hi) place-low

-- p, l and q are the format's digits, its low and the quotient as the code has them
module _ (f : Format) (s : Bool) (m den p l n k q : ℕ) (P : p ≡ prec f) (L : l ≡ low f) (D : 0 < den) (B : den ≤ 10 ^ 15) (d : (den * 2 ^ 52 % 2 ^ 128 ≤ n) × (n < 2 * (den * 2 ^ 52 % 2 ^ 128)) × (n * 2 ^ k ≡ m * 2 ^ (l + (53 - p))) × (k ≤ l + (53 - p))) (Q : q ≡ closest n (den * 2 ^ (53 - p) % 2 ^ 128)) where
  same-low : n * 2 ^ k ≡ m * 2 ^ (low f + (53 - p))
  same-low = d.2 ∙ ap (λ x. m * 2 ^ (x + (53 - p))) L

  pub rounded_held : HeldUnits f q k
  rounded_held = subst (λ x. HeldUnits f x k) (sym Q) (shifted_held f m den n k (53 - p) D B (ap (λ x. 53 - x) P) same-low s d.0 d.1 (omega (arith, L, d.3)))

  pub rounded_is : (x : Float) → x ≡ in_units f s q k → x ≡ round f s m den
  rounded_is x e = shifted_is f m den n k (53 - p) D B (ap (λ x. 53 - x) P) same-low s d.0 d.1 (omega (arith, L, d.3)) x (e ∙ ap (λ y. in_units f s y k) Q)

-- ---- zero
round-zero : (f : Format) (s : Bool) → round f s 0 1 ≡ fin s 0 (pos 0)
unfolding round
round-zero binary32 s = refl
round-zero binary64 s = refl

pub zero-quotient : (f : Format) (s : Bool) (m den : ℕ) → 0 < den → m ≡ 0 → (x : Float) → x ≡ in_units f s 0 0 → x ≡ round f s m den
zero-quotient f s m den D z x e =
    e ∙ odd-zero 64 s 0 0 (low f) refl ∙ sym (round-zero f s) ∙ round_same f s 0 1 0 den (lit< tt) D (zero-mul den ∙ sym (zero-mul 1)) ∙ ap (λ y. round f s y den) (sym z)
