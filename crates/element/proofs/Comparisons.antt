-- The tests of the element types, as the compiled comparisons make them, are those of the specifications.
use Rattle.std.proofs.Common.{◌≡◌, ℕ, zero, suc, ◌*◌, ◌<◌, Bool, true, false, ◌&&◌, ◌||◌, T, eqb, ltb, leb, ℤ, pos, negsuc, sym, refl, ap, ◌∙◌, zero-lt-suc, mul-pos, zero-mul, mul-one, arith, lit<}
use mathlib.Core.Bool.{beq}
use lib.Ieee.{Float, nan, inf, fin, Format, binary32, binary64, up, down, neg, lt, eq, le, of_bits, fits}
use lib.Ieee.Fits.{up_pos, down_pos}
use lib.Ieee.Scale.{finite}
use Rattle.std.specs.Float as Floats
use Rattle.std.proofs.lemmas.Bool.{ne_eqb}
use Rattle.exact.specs.Value.{magnitude, is_zero}
use Rattle.exact.specs.Range.{least, in_range}
use Rattle.exact.specs.Threshold.{threshold, reaches}
use Rattle.exact.proofs.Magnitude.{magnitude-le}
use Rattle.element.specs.Products.{not_below_range}

pub is_finite : (x : Float) → Floats.float_is_finite x ≡ finite x
unfolding Floats.float_is_finite
is_finite nan = refl
is_finite (inf s) = refl
is_finite (fin s m e) = refl

-- ---- zero
pub zero_bits : (f : Format) → of_bits f 0 ≡ fin false 0 (pos 0)
unfolding of_bits
zero_bits binary32 = refl
zero_bits binary64 = refl

eqb-product : (m u : ℕ) → 0 < u → eqb (m * u * 1) 0 ≡ eqb m 0
eqb-product zero u h = ap (λ k. eqb k 0) (mul-one (0 * u) ∙ zero-mul u)
eqb-product (suc m) u h =
    let p : 0 < suc m * u * 1 = mul-pos (mul-pos {m = suc m} (zero-lt-suc m) h) (lit< tt) in
    ne_eqb (suc m * u * 1) 0 (λ e. omega arith) ∙ sym (ne_eqb (suc m) 0 (λ e. omega arith))

level-zero : (s : Bool) (b : Bool) → (b && (beq s false || b)) ≡ b
level-zero s false = refl
level-zero false true = refl
level-zero true true = refl

is-zero-fin : (s : Bool) (m : ℕ) (e : ℤ) → eq (fin s m e) (fin false 0 (pos 0)) ≡ eqb m 0
unfolding eq
is-zero-fin s m e =
    let k = m * up e * 1 in
    ap (λ z. eqb k z && (beq s false || eqb k 0)) (zero-mul (down e)) ∙ level-zero s (eqb k 0) ∙ eqb-product m (up e) (up_pos e)

is-zero-value : (x : Float) → eq x (fin false 0 (pos 0)) ≡ is_zero x
unfolding eq
is-zero-value nan = refl
is-zero-value (inf s) = refl
is-zero-value (fin s m e) = is-zero-fin s m e

pub is-zero : (f : Format) (x : Float) → eq x (of_bits f 0) ≡ is_zero x
is-zero f x = ap (eq x) (zero_bits f) ∙ is-zero-value x

-- ---- not below range: fin false k d is the least magnitude in range
pub record IsLeast (f : Format) (k : ℕ) (d : ℤ) : Type 0 where
  pub fit : T (fits f (fin false k d))
  pub positive : 0 < k
  pub amount : magnitude (fin false k d) ≡ least f

-- two comparisons of the magnitudes a and b, the one with the sign, the other without
above_zero : (a b : ℕ) → 0 < b → ((eqb a b && eqb a 0) || (ltb b a || (eqb b a && true))) ≡ (ltb b a || (eqb b a && true))
above_zero a b h = grind arith

below-zero : (a b : ℕ) → 0 < b → ((ltb b a || (eqb a b && true)) || (eqb b a && eqb b 0)) ≡ (ltb b a || (eqb b a && true))
below-zero a b h = grind arith

-- at most -c, or at least c: of magnitude c at least
two_sides : (s : Bool) (m k : ℕ) (e d : ℤ) → 0 < k → (le (fin s m e) (neg (fin false k d)) || le (fin false k d) (fin s m e)) ≡ le (fin false k d) (fin false m e)
unfolding le lt eq neg
two_sides false m k e d h = above_zero (m * up e * down d) (k * up d * down e) (mul-pos (mul-pos h (up_pos d)) (down_pos e))
two_sides true m k e d h = below-zero (m * up e * down d) (k * up d * down e) (mul-pos (mul-pos h (up_pos d)) (down_pos e))

pub not-below-range : (f : Format) (k : ℕ) (d : ℤ) (c x : Float) → IsLeast f k d → c ≡ fin false k d → T (fits f x) → (le x (neg c) || le c x) ≡ not_below_range f x
unfolding le lt eq neg Floats.float_with_sign
not-below-range f k d c nan l p q = ap (λ z. le nan (neg z) || le z nan) p
not-below-range f k d c (inf false) l p q = ap (λ z. le (inf false) (neg z) || le z (inf false)) p
not-below-range f k d c (inf true) l p q = ap (λ z. le (inf true) (neg z) || le z (inf true)) p
not-below-range f k d c (fin s m e) l p q =
    ap (λ z. le (fin s m e) (neg z) || le z (fin s m e)) p
    ∙ two_sides s m k e d l.positive
    ∙ magnitude-le f (fin false k d) (fin s m e) l.fit q tt tt
    ∙ ap (λ a. leb a (magnitude (fin s m e))) l.amount

-- ---- in range: the same test of the magnitude alone, and finite
pub in_range_lem : (f : Format) (k : ℕ) (d : ℤ) (c x : Float) → IsLeast f k d → c ≡ fin false k d → T (fits f x) → (Floats.float_is_finite x && le c (Floats.float_with_sign false x)) ≡ in_range f x
unfolding Floats.float_is_finite Floats.float_with_sign
in_range_lem f k d c nan l p q = refl
in_range_lem f k d c (inf s) l p q = refl
in_range_lem f k d c (fin s m e) l p q =
    ap (λ z. le z (fin false m e)) p
    ∙ magnitude-le f (fin false k d) (fin s m e) l.fit q tt tt
    ∙ ap (λ a. leb a (magnitude (fin s m e))) l.amount

pub least32 : IsLeast binary32 1 (negsuc 109)
unfolding fits
least32 = record { fit = tt; positive = lit< tt; amount = refl }

pub least64 : IsLeast binary64 1 (negsuc 999)
unfolding fits
least64 = record { fit = tt; positive = lit< tt; amount = refl }

pub least_bits32 : of_bits binary32 142606336 ≡ fin false 1 (negsuc 109)
unfolding of_bits
least_bits32 = refl

pub least_bits64 : of_bits binary64 103582791429521408 ≡ fin false 1 (negsuc 999)
unfolding of_bits
least_bits64 = refl

-- ---- the threshold: a power of two c, on either side of zero
either_side : (k : ℤ) (x : Float) → (le x (neg (fin false 1 k)) || le (fin false 1 k) x) ≡ le (fin false 1 k) (Floats.float_with_sign false x)
unfolding le lt eq neg Floats.float_with_sign
either_side k nan = refl
either_side k (inf false) = refl
either_side k (inf true) = refl
either_side k (fin s m e) = two_sides s m 1 e k (lit< tt)

-- as the formats write it
abbrev threshold_bits : Format → ℕ
threshold_bits binary32 = 603979776
threshold_bits binary64 = 2355382605114769408

threshold_bits_lem : (f : Format) → of_bits f (threshold_bits f) ≡ threshold f
unfolding of_bits
threshold_bits_lem binary32 = refl
threshold_bits_lem binary64 = refl

pub reaches-threshold : (f : Format) (x : Float) → (le x (neg (of_bits f (threshold_bits f))) || le (of_bits f (threshold_bits f)) x) ≡ reaches f x
reaches-threshold f x = ap (λ c. le x (neg c) || le c x) (threshold_bits_lem f) ∙ either_at f x
  where
    either_at : (f : Format) (x : Float) → (le x (neg (threshold f)) || le (threshold f) x) ≡ reaches f x
    either_at binary32 x = either_side (negsuc 54) x
    either_at binary64 x = either_side (negsuc 499) x
