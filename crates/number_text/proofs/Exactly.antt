-- When m 2^k / 2^l is a value of a format, and of how many units.
use Rattle.std.proofs.Common.{div-le_self, ◌≡◌, ℕ, zero, suc, ◌+◌, ◌-◌, ◌*◌, ◌/◌, ◌%◌, ◌^◌, ◌<◌, ◌≤◌, min, Bool, true, false, cond, ◌&&◌, eqb, ltb, leb, ℤ, pos, negsuc, Some, None, Option, Ok, Err, Result, T, sym, refl, ap, ◌∙◌, subst, ⊎_elim, le_trans, lt_of_lt_of_le, le_of_lt, mul-le-mul_right, mod-eq_of_lt, mul_assoc, mul-pos, le_of_mul-le-mul_right, arith, pow_pos, pow_mono, pow-add, shl_lt}
use lib.Count.{count_trailing_zeros, count_leading_zeros, leading_top}
use lib.Pow.{pow-lt}
use lib.Ieee.{Float, fin, Format, binary32, binary64, prec, emax, low, hid, up, down, minus, odd, fits}
use lib.Ieee.Bits.{is_true}
use lib.Ieee.Digits.{minus_val}
use lib.Ieee.Fits.{two}
use Rattle.std.proofs.lemmas.Bool.{cases_lt, and_left, and_right, le-ltb, lt-leb}
use Rattle.number_text.specs.Digits.{in_units, HeldUnits}
use Rattle.std.specs.Option.{SomeIff}
use Rattle.std.specs.Result.{IsErr}
use Rattle.number_text.specs.declared.refusal.NumberRefusal.{NumberRefusal}
use Rattle.number_text.specs.Number.{exactly, value_read}
use Rattle.number_text.proofs.Patterns.{odd_pos, odd-zero, odd_shift, odd-level, trailing_divides, units-fit, units_small, some-place}

pub prec_small : (f : Format) → prec f ≤ 53
prec_small binary32 = omega arith
prec_small binary64 = omega arith

-- how many digits a number has
pub digits_of : (w : ℕ) → 0 < w → w < 2 ^ 64 → (0 < 64 - count_leading_zeros 64 w) × (2 ^ (64 - count_leading_zeros 64 w - 1) ≤ w) × (w < 2 ^ (64 - count_leading_zeros 64 w))
digits_of w p h =
    let t = leading_top 64 w p h in
    let d : suc t.0 ≡ 64 - count_leading_zeros 64 w = omega (arith, t.1) in
    let e : t.0 ≡ 64 - count_leading_zeros 64 w - 1 = omega arith in
    (omega arith, subst (λ x. 2 ^ x ≤ w) e t.2, subst (λ x. w < 2 ^ x) d t.3)

-- ---- what is no value
module _ (f : Format) (s : Bool) (m : ℕ) (e : ℤ) where
  too_many : 2 ^ prec f ≤ m → fits f (fin s m e) ≡ false
  unfolding fits
  too_many h = by m h
    where
      by : (m : ℕ) → 2 ^ prec f ≤ m → fits f (fin s m e) ≡ false
      by zero h = absurd (omega (arith, pow_pos (prec f)))
      by (suc m) h = and_left _ _ (and_left _ _ (and_right (eqb (suc m % 2) 1) _ (le-ltb (suc m) (2 ^ prec f) h)))

  too_fine : 0 < m → 2 ^ low f < down e → fits f (fin s m e) ≡ false
  unfolding fits
  too_fine p h = by m p
    where
      by : (m : ℕ) → 0 < m → fits f (fin s m e) ≡ false
      by zero p = absurd (omega arith)
      by (suc m) p = and_left _ _ (and_right (eqb (suc m % 2) 1 && ltb (suc m) (2 ^ prec f)) _ (lt-leb (down e) (2 ^ low f) h))

  too_large : 0 < m → 2 ^ suc (emax f) * down e ≤ m * up e → fits f (fin s m e) ≡ false
  unfolding fits
  too_large p h = by m p h
    where
      by : (m : ℕ) → 0 < m → 2 ^ suc (emax f) * down e ≤ m * up e → fits f (fin s m e) ≡ false
      by zero p h = absurd (omega arith)
      by (suc m) p h = and_right (eqb (suc m % 2) 1 && ltb (suc m) (2 ^ prec f) && leb (down e) (2 ^ low f)) _ (le-ltb (suc m * up e) (2 ^ suc (emax f) * down e) h)

pub none_read : {R : Type 0} (val : R → Float) (r : Result R NumberRefusal) → IsErr r → value_read val r ≡ None
none_read val (Ok x) h = absurd (subst T (sym h) tt)
none_read val (Err e) h = refl

refused : (f : Format) (x y : Float) → x ≡ y → fits f y ≡ false → None ≡ cond (fits f x) (Some x) None
refused f x y e h = sym (ap (λ b. cond b (Some x) None) (ap (fits f) e ∙ h))

down-minus : (a b : ℕ) → a < b → down (minus a b) ≡ 2 ^ (b - a)
down-minus a b h =
    let n : suc (b - suc a) ≡ b - a = omega arith in
    ap (λ t. down (cond t (pos (a - b)) (negsuc (b - suc a)))) (lt-leb b a h) ∙ ap (λ x. 2 ^ x) n

pub whole_pos : (m : ℕ) → 0 < m → 0 < m / 2 ^ count_trailing_zeros 64 m
whole_pos m M = ⊎_elim (λ h. h) (λ h. absurd (omega (arith, trailing_divides 64 m, mul-le-mul_right (2 ^ count_trailing_zeros 64 m) h))) (cases_lt 0 (m / 2 ^ count_trailing_zeros 64 m))

module _ (f : Format) (s : Bool) (m k l : ℕ) (M : 0 < m) where
  abbrev whole : ℕ
  whole = m / 2 ^ count_trailing_zeros 64 m

  abbrev scale : ℕ
  scale = k + count_trailing_zeros 64 m

  form : odd 64 s m k l ≡ fin s whole (minus scale l)
  form = odd_pos 64 s m k l M

  refused-digits : 2 ^ prec f ≤ whole → None ≡ exactly f s m k l
  refused-digits h = refused f (odd 64 s m k l) (fin s whole (minus scale l)) form (too_many f s whole (minus scale l) h)

  pub refused-low : scale + low f < l → None ≡ exactly f s m k l
  refused-low h =
      let d : low f < l - scale = omega arith in
      refused f (odd 64 s m k l) (fin s whole (minus scale l)) form
      (too_fine f s whole (minus scale l) (whole_pos m M) (subst (λ x. 2 ^ low f < x) (sym (down-minus scale l (omega arith))) (pow-lt d)))

  pub refused-long : (d : ℕ) → 2 ^ (d - 1) ≤ whole → prec f < d → None ≡ exactly f s m k l
  refused-long d h t = refused-digits (le_trans (pow_mono (omega arith)) h)

  module _ (place : ℕ) (P : place + l ≡ scale + low f) where
    -- as numbers of units, over the common factor 2^l 2^low
    refused-high : 2 ^ (low f + suc (emax f)) ≤ whole * 2 ^ place → None ≡ exactly f s m k l
    refused-high h =
        let e = minus scale l in
        let L = 2 ^ l in
        let W = 2 ^ low f in
        let v : whole * up e * L ≡ whole * 2 ^ scale * down e = minus_val whole scale l in
        let p : 2 ^ place * L ≡ 2 ^ scale * W = sym (pow-add 2 place l) ∙ ap (λ x. 2 ^ x) P ∙ pow-add 2 scale (low f) in
        let same : whole * up e * (L * W) ≡ whole * 2 ^ place * (L * down e) =
        sym (mul_assoc (whole * up e) L W) ∙ ap (λ x. x * W) v ∙ omega (arith, ap (λ x. whole * down e * x) p) in
        let over : W * 2 ^ suc (emax f) * (L * down e) ≤ whole * 2 ^ place * (L * down e) = mul-le-mul_right (L * down e) (subst (λ x. x ≤ whole * 2 ^ place) (pow-add 2 (low f) (suc (emax f))) h) in
        refused f (odd 64 s m k l) (fin s whole e) form
        (too_large f s whole e (whole_pos m M) (le_of_mul-le-mul_right (omega arith) (mul-pos (pow_pos l) (pow_pos (low f)))))

    pub refused-above : (d : ℕ) → 0 < d → 2 ^ (d - 1) ≤ whole → low f + suc (emax f) < d + place → None ≡ exactly f s m k l
    refused-above d D h t =
        let n : low f + suc (emax f) ≤ d - 1 + place = omega arith in
        refused-high (le_trans (pow_mono n) (subst (λ x. x ≤ whole * 2 ^ place) (sym (pow-add 2 (d - 1) place)) (mul-le-mul_right (2 ^ place) h)))

    -- q is the whole number moved up by j digits
    pub accepted : m < 2 ^ 64 → (q j n : ℕ) → q ≡ whole * 2 ^ j → n + j ≡ place → HeldUnits f q n → (x : Float) → x ≡ in_units f s q n → Some x ≡ exactly f s m k l
    accepted B q j n e t u x is =
        let small : whole * 2 ^ j < 2 ^ 64 = subst (λ y. y < 2 ^ 64) e (units_small f q u.digits) in
        let full : whole * 2 ^ count_trailing_zeros 64 m < 2 ^ 64 = subst (λ y. y < 2 ^ 64) (sym (trailing_divides 64 m)) B in
        let g : odd 64 s m k l ≡ in_units f s q n =
        ap (λ y. odd 64 s y k l) (sym (trailing_divides 64 m))
        ∙ odd_shift 63 s whole (count_trailing_zeros 64 m) k l full
        ∙ odd-level 64 s whole scale l place (low f) (sym P)
        ∙ ap (λ y. odd 64 s whole y (low f)) (sym t)
        ∙ sym (odd_shift 63 s whole j n (low f) small)
        ∙ ap (λ y. in_units f s y n) (sym e) in
        let fit : fits f (odd 64 s m k l) ≡ true = ap (fits f) g ∙ is_true _ (units-fit f s q n u) in
        ap Some (is ∙ sym g) ∙ sym (ap (λ b. cond b (Some (odd 64 s m k l)) None) fit)

-- ---- zero
zero_held : (f : Format) → HeldUnits f 0 0
zero_held f = record { digits = omega arith; normal = λ h. absurd (omega arith); place = some-place f; finite = omega (arith, pow_pos (low f + suc (emax f))) }

pub zero-exactly : (f : Format) (s : Bool) (m k l : ℕ) → m ≡ 0 → (x : Float) → x ≡ in_units f s 0 0 → Some x ≡ exactly f s m k l
zero-exactly f s m k l z x is =
    let e : odd 64 s m k l ≡ in_units f s 0 0 = odd-zero 64 s m k l z ∙ sym (odd-zero 64 s 0 0 (low f) refl) in
    let fit : fits f (odd 64 s m k l) ≡ true = ap (fits f) e ∙ is_true _ (units-fit f s 0 0 (zero_held f)) in
    ap Some (is ∙ sym e) ∙ sym (ap (λ b. cond b (Some (odd 64 s m k l)) None) fit)

-- ---- a whole number of d digits, moved up by as many digits as are free and as its place allows
module _ (f : Format) (w d place room : ℕ) (D : 0 < d) (lo : 2 ^ (d - 1) ≤ w) (hi : w < 2 ^ d) (P : d ≤ prec f) (L : d + place ≤ low f + suc (emax f)) (R : room ≡ min (prec f - d) place) where
  moved-digits : w * 2 ^ room < 2 ^ prec f
  moved-digits = lt_of_lt_of_le (shl_lt d room hi) (pow_mono (omega arith))

  pub moved-whole : w * 2 ^ room % 2 ^ 64 ≡ w * 2 ^ room
  moved-whole = mod-eq_of_lt (units_small f (w * 2 ^ room) (le_of_lt moved-digits))

  moved-normal : 0 < place - room → hid f ≤ w * 2 ^ room
  moved-normal h =
      let e : prec f - 1 ≡ d - 1 + room = omega arith in
      subst (λ x. x ≤ w * 2 ^ room) (sym (pow-add 2 (d - 1) room) ∙ ap (λ x. 2 ^ x) (sym e)) (mul-le-mul_right (2 ^ room) lo)

  moved-finite : w * 2 ^ room * 2 ^ (place - room) < 2 ^ (low f + suc (emax f))
  moved-finite =
      let e : room + (place - room) ≡ place = omega arith in
      subst (λ x. x < 2 ^ (low f + suc (emax f)))
      (ap (λ x. w * x) (ap (λ x. 2 ^ x) (sym e) ∙ pow-add 2 room (place - room)) ∙ sym (mul_assoc w (2 ^ room) (2 ^ (place - room))))
      (lt_of_lt_of_le (shl_lt d place hi) (pow_mono L))

  pub moved-held : HeldUnits f (w * 2 ^ room % 2 ^ 64) (place - room)
  moved-held = subst (λ q. HeldUnits f q (place - room)) (sym moved-whole) record {
    digits = le_of_lt moved-digits;
    normal = moved-normal;
    place = ⊎_elim (λ h. omega (arith, two f)) (λ h. omega (arith, some-place f)) (cases_lt room place);
    finite = moved-finite;
  }

-- ---- the same for the numbers of `exact_value`: p and w are the format's digits and its low, and o is the place if there is one
module _ (f : Format) (s : Bool) (m up down p w : ℕ) (M : 0 < m) (B : m < 2 ^ 60) (P : p ≡ prec f) (W : w ≡ low f) (o : Option ℕ) (O : SomeIff o (down ≤ up + count_trailing_zeros 64 m + w) (up + count_trailing_zeros 64 m + w - down)) where
  abbrev odd_part : ℕ
  odd_part = m / 2 ^ count_trailing_zeros 64 m

  abbrev count : ℕ
  count = 64 - count_leading_zeros 64 odd_part

  sized : (0 < count) × (2 ^ (count - 1) ≤ odd_part) × (odd_part < 2 ^ count)
  sized = digits_of odd_part (whole_pos m M) (omega (arith, div-le_self m (2 ^ count_trailing_zeros 64 m)))

  pub too_low : o ≡ None → None ≡ exactly f s m up down
  too_low e =
      let h = subst (λ x. SomeIff x (down ≤ up + count_trailing_zeros 64 m + w) (up + count_trailing_zeros 64 m + w - down)) e O in
      refused-low f s m up down M (omega (arith, W, h))

  module _ (place : ℕ) (e : o ≡ Some place) where
    placed : (down ≤ up + count_trailing_zeros 64 m + w) × (place ≡ up + count_trailing_zeros 64 m + w - down)
    placed = subst (λ x. SomeIff x (down ≤ up + count_trailing_zeros 64 m + w) (up + count_trailing_zeros 64 m + w - down)) e O

    pub too_long : p < count → None ≡ exactly f s m up down
    too_long h = refused-long f s m up down M count sized.1 (omega (arith, P))

    pub too_high : 2 * w + 3 - p < count + place → None ≡ exactly f s m up down
    too_high h = refused-above f s m up down M place (omega (arith, W, placed)) count sized.0 sized.1 (omega (arith, two f, P, W))

    module _ (room : ℕ) (R : room ≡ min (p - count) place) (N : count ≤ p) (H : count + place ≤ 2 * w + 3 - p) where
      room-is : room ≡ min (prec f - count) place
      room-is = R ∙ ap (λ x. min (x - count) place) P

      within : count + place ≤ low f + suc (emax f)
      within = omega (arith, two f, P, W)

      pub held : HeldUnits f (odd_part * 2 ^ room % 2 ^ 64) (place - room)
      held = moved-held f odd_part count place room sized.0 sized.1 sized.2 (omega (arith, P)) within room-is

      pub taken : (x : Float) → x ≡ in_units f s (odd_part * 2 ^ room % 2 ^ 64) (place - room) → Some x ≡ exactly f s m up down
      taken x is =
          accepted f s m up down M place (omega (arith, W, placed)) (omega arith) (odd_part * 2 ^ room % 2 ^ 64) room (place - room)
          (moved-whole f odd_part count place room sized.0 sized.1 sized.2 (omega (arith, P)) within room-is) (omega arith) held x is
