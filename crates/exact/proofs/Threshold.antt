-- Factors that reach the threshold: their product, if finite, is in range, and so is a finite quotient that reaches it.
use Rattle.std.proofs.Common.{◌≡◌, ℕ, ◌+◌, ◌-◌, ◌*◌, ◌^◌, ◌<◌, ◌≤◌, Bool, true, false, cond, ◌||◌, T, eqb, leb, ℤ, nat_abs, sym, refl, ap, ◌∙◌, subst, ⊎_elim, le_trans, le_of_eq, lt_irrefl, mul-le-mul_right, mul-le-mul, mul-pos, zero-mul, sub-add_cancel, arith, lit≤, le→leb, leb→le, pow_pos, pow-add}
use lib.Ieee.{Float, nan, inf, fin, Format, binary32, binary64, prec, low, unlike, up, down, round, mul, div, fits, lt, eq, le}
use lib.Ieee.Bits.{is_true}
use lib.Ieee.Fits.{down_pos, and_i, div-fits, two, two-le_pos}
use lib.Ieee.Scale.{grid, finite}
use Rattle.std.specs.Float.{float_with_sign}
use Rattle.std.proofs.lemmas.Bool.{eqb-true, or_cases, or_left, or_right, cases_Bool}
use Rattle.exact.specs.Value.{magnitude, is_zero}
use Rattle.exact.specs.Range.{least, in_range, product_in_range, quotient_in_range}
use Rattle.exact.specs.Threshold.{threshold, reaches, zero_or_reaches}
use Rattle.exact.proofs.Operands.{quotient-dividend}
use Rattle.exact.proofs.Digits.{rounded, rounded_ge, rounded-exact}
use Rattle.exact.proofs.Signed.{nat_abs-signed}
use Rattle.exact.proofs.Value.{step, round-value}
use Rattle.exact.proofs.Round.{result}
use Rattle.exact.proofs.Laws.{divisor-pos}
use Rattle.exact.proofs.Magnitude.{le_is, magnitude-le, magnitude-pos}

-- ---- the threshold is 2^-t
abbrev places : Format → ℕ
places binary32 = 55
places binary64 = 500

reaches_fraction : (f : Format) (s : Bool) (m : ℕ) (e : ℤ) → T (reaches f (fin s m e)) → down e ≤ m * up e * 2 ^ places f
unfolding le lt eq float_with_sign
reaches_fraction binary32 s m e t =
    let h : 1 * 1 * down e ≤ m * up e * 2 ^ 55 = leb→le (1 * 1 * down e) (m * up e * 2 ^ 55) (subst T (le_is (1 * 1 * down e) (m * up e * 2 ^ 55)) t) in
    le_trans (omega arith) h
reaches_fraction binary64 s m e t =
    let h : 1 * 1 * down e ≤ m * up e * 2 ^ 500 = leb→le (1 * 1 * down e) (m * up e * 2 ^ 500) (subst T (le_is (1 * 1 * down e) (m * up e * 2 ^ 500)) t) in
    le_trans (omega arith) h

-- the square of the threshold is the least magnitude in range, and not below the format's least value
least-square : (f : Format) → 2 ^ (low f - (places f + places f)) * step f ≡ least f
least-square binary32 = refl
least-square binary64 = refl

square_deep : (f : Format) → places f + places f ≤ low f
square_deep binary32 = lit≤ tt
square_deep binary64 = lit≤ tt

-- a fraction of at least the square
result_ge : (f : Format) (a c : ℕ) → 0 < c → c ≤ a * 2 ^ (places f + places f) → least f ≤ result f a c
result_ge f a c C h =
    let s = places f + places f in
    let l = low f - s in
    let split : 2 ^ low f ≡ 2 ^ s * 2 ^ l = ap (λ (k : ℕ). 2 ^ k) (let whole : low f ≡ s + l = omega (arith, sub-add_cancel (square_deep f)) in whole) ∙ pow-add 2 s l in
    let scaled : c * 2 ^ l ≤ a * 2 ^ s * 2 ^ l = mul-le-mul_right (2 ^ l) h in
    let large : 2 ^ l * c ≤ a * 2 ^ low f = rw split (omega arith) in
    le_trans (le_of_eq (sym (least-square f))) (mul-le-mul_right (step f) (rounded_ge (prec f) l (a * 2 ^ low f) c (two-le_pos (prec f) (two f)) C large))

round_in_range : (f : Format) (s : Bool) (a c : ℕ) → least f ≤ result f a c → T (finite (round f s a c)) → T (in_range f (round f s a c))
round_in_range f s a c h t =
    let is : magnitude (round f s a c) ≡ result f a c = ap nat_abs (round-value f s a c t) ∙ nat_abs-signed s (result f a c) in
    and_i (finite (round f s a c)) (leb (least f) (magnitude (round f s a c))) t (le→leb (least f) (magnitude (round f s a c)) (rw is h))

not_finite : (b s : Bool) → T (finite (cond b nan (inf s))) → ⊥
not_finite true s t = t
not_finite false s t = t

product-reaches : (f : Format) (x y : Float) → T (reaches f x) → T (reaches f y) → T (finite (mul f x y)) → T (in_range f (mul f x y))
unfolding mul
product-reaches f nan y p q t = absurd t
product-reaches f (inf s) nan p q t = absurd t
product-reaches f (inf s) (inf r) p q t = absurd t
product-reaches f (inf s) (fin r n d) p q t = absurd (not_finite (eqb n 0) (unlike s r) t)
product-reaches f (fin s m e) nan p q t = absurd t
product-reaches f (fin s m e) (inf r) p q t = absurd (not_finite (eqb m 0) (unlike s r) t)
product-reaches f (fin s m e) (fin r n d) p q t =
    let k = places f in
    let a = m * up e * (n * up d) in
    let c = down e * down d in
    let C : 0 < c = mul-pos (down_pos e) (down_pos d) in
    let both : c ≤ m * up e * 2 ^ k * (n * up d * 2 ^ k) = mul-le-mul (reaches_fraction f s m e p) (reaches_fraction f r n d q) in
    let large : c ≤ a * 2 ^ (k + k) = rw (pow-add 2 k k) (le_trans both (omega arith)) in
    round_in_range f (unlike s r) a c (result_ge f a c C large) t

pub product_in_range_lem : (f : Format) (x y : Float) → T (zero_or_reaches f x) → T (zero_or_reaches f y) → T (finite (mul f x y)) → T (product_in_range f x y)
product_in_range_lem f x y p q t =
    let i = in_range f (mul f x y) in
    let zero = is_zero x || is_zero y in
    let yes : product_in_range f x y ≡ true =
    ⊎_elim
    (λ z. or_left zero i (or_left (is_zero x) (is_zero y) z))
    (λ h. ⊎_elim
    (λ z. or_left zero i (or_right (is_zero x) (is_zero y) z))
    (λ g. or_right zero i (is_true i (product-reaches f x y (subst T (sym h) tt) (subst T (sym g) tt) t)))
    (or_cases (is_zero y) (reaches f y) (is_true _ q)))
    (or_cases (is_zero x) (reaches f x) (is_true _ p)) in
    subst T (sym yes) tt

-- ---- quotients
threshold_in_range : (f : Format) → least f ≤ magnitude (threshold f)
threshold_in_range binary32 = lit≤ tt
threshold_in_range binary64 = lit≤ tt

threshold-fits : (f : Format) → T (fits f (threshold f))
unfolding fits
threshold-fits binary32 = tt
threshold-fits binary64 = tt

threshold-finite : (f : Format) → T (finite (threshold f))
threshold-finite binary32 = tt
threshold-finite binary64 = tt

threshold-positive : (f : Format) → float_with_sign false (threshold f) ≡ threshold f
unfolding float_with_sign
threshold-positive binary32 = refl
threshold-positive binary64 = refl

pub reaches_in_range : (f : Format) (x : Float) → T (fits f x) → T (finite x) → T (reaches f x) → T (in_range f x)
reaches_in_range f x p t r =
    let is : reaches f x ≡ leb (magnitude (threshold f)) (magnitude x) =
    ap (λ z. le z (float_with_sign false x)) (sym (threshold-positive f)) ∙ magnitude-le f (threshold f) x (threshold-fits f) p (threshold-finite f) t in
    and_i (finite x) (leb (least f) (magnitude x)) t
    (le→leb (least f) (magnitude x) (le_trans (threshold_in_range f) (leb→le (magnitude (threshold f)) (magnitude x) (subst T is r))))

pub quotient_in_range_lem : (f : Format) (x y : Float) → T (is_zero x || reaches f (div f x y)) → T (finite (div f x y)) → T (quotient_in_range f x y)
quotient_in_range_lem f x y r t =
    let q = div f x y in
    ⊎_elim
    (λ z. subst T (sym (or_left (is_zero x) (in_range f q) z)) tt)
    (λ h. subst T (sym (or_right (is_zero x) (in_range f q) (is_true _ (reaches_in_range f q (div-fits f x y) t (subst T (sym h) tt))))) tt)
    (or_cases (is_zero x) (reaches f q) (is_true _ r))

-- a quotient of zero is zero
round-zero : (f : Format) (s : Bool) (a c : ℕ) → 0 < c → a ≡ 0 → T (finite (round f s a c)) → is_zero (round f s a c) ≡ true
round-zero f s a c C e t =
    let none : a * 2 ^ low f ≡ 0 * 2 ^ 0 * c = rw (e, zero-mul (2 ^ low f), zero-mul (2 ^ 0), zero-mul c) in
    let nothing : grid f a c ≡ 0 = ap (λ n. rounded (prec f) n c) none ∙ rounded-exact (prec f) 0 0 c C (pow_pos (prec f)) in
    let is : magnitude (round f s a c) ≡ 0 = ap nat_abs (round-value f s a c t) ∙ nat_abs-signed s (result f a c) ∙ ap (λ g. g * step f) nothing ∙ zero-mul (step f) in
    ⊎_elim (λ z. z) (λ z. absurd (lt_irrefl 0 (subst (λ k. 0 < k) is (magnitude-pos (round f s a c) t z)))) (cases_Bool (is_zero (round f s a c)))

pub zero-quotient : (f : Format) (x y : Float) → is_zero x ≡ true → T (finite (div f x y)) → is_zero (div f x y) ≡ true
unfolding div
zero-quotient f nan y z t = absurd t
zero-quotient f (inf s) y z t = absurd (quotient-dividend f (inf s) y t)
zero-quotient f (fin s m e) nan z t = absurd t
zero-quotient f (fin s m e) (inf r) z t = refl
zero-quotient f (fin s m e) (fin r n d) z t = go (eqb n 0) refl t
  where
    go : (b : Bool) → eqb n 0 ≡ b → T (finite (cond b (cond (eqb m 0) nan (inf (unlike s r))) (round f (unlike s r) (m * up e * down d) (n * up d * down e))))
        → is_zero (cond b (cond (eqb m 0) nan (inf (unlike s r))) (round f (unlike s r) (m * up e * down d) (n * up d * down e))) ≡ true
    go true h u = absurd (not_finite (eqb m 0) (unlike s r) u)
    go false h u =
        let none : m * up e * down d ≡ 0 = rw (eqb-true m 0 z, zero-mul (up e), zero-mul (down d)) in
        round-zero f (unlike s r) (m * up e * down d) (n * up d * down e) (divisor-pos n d e h) none u

pub multiplier-reaches : (f : Format) (x y : Float) → T (is_zero x || reaches f (div f x y)) → T (finite (div f x y)) → T (zero_or_reaches f (div f x y))
multiplier-reaches f x y r t =
    let q = div f x y in
    ⊎_elim
    (λ z. subst T (sym (or_left (is_zero q) (reaches f q) (zero-quotient f x y z t))) tt)
    (λ h. subst T (sym (or_right (is_zero q) (reaches f q) h)) tt)
    (or_cases (is_zero x) (reaches f q) (is_true _ r))
