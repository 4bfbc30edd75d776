-- Magnitudes beside the format's own tests: the order of absolute values is that of magnitudes, and what is not zero has a magnitude above 0.
-- And when quotients are finite.
use Rattle.std.proofs.Common.{◌≡◌, ℕ, ◌*◌, ◌<◌, true, false, ◌&&◌, ◌||◌, T, eqb, ltb, leb, ℤ, pos, negsuc, nat_abs, sym, ap, ◌∙◌, subst, ap₂, ⊎_elim, zero-le, mul-pos, lt_of_not-le, not-le_of_lt, arith, pow_pos}
use lib.Arith.{lt_of_le-ne}
use lib.Ieee.{Float, nan, inf, fin, Format, up, down, fits, lt, le, div}
use lib.Ieee.Bits.{is_true}
use lib.Ieee.Fits.{and_l}
use lib.Ieee.Scale.{finite}
use Rattle.std.specs.Float.{float_with_sign}
use Rattle.std.proofs.lemmas.Bool.{eqb-false, ltb-true, ltb-false, leb-true, leb-false, lt-ltb, le-ltb, le-leb, lt-leb, cases_Bool, or_cases}
use Rattle.exact.specs.Value.{unit, scaled, magnitude, is_zero}
use Rattle.exact.specs.Range.{least, in_range, quotient_in_range}
use Rattle.exact.proofs.Fraction.{InUnits, units-le, fraction_le, left-units, right-units}
use Rattle.exact.proofs.Signed.{nat_abs-signed}
use Rattle.exact.proofs.Value.{value-zero, fits-units}
use Rattle.exact.proofs.Laws.{quotient_at_most_one}

-- two fractions with one divisor, by their units
module _ {a b c A B : ℕ} (p : InUnits unit a c A) (q : InUnits unit b c B) where
  lt-units : a < b → A < B
  lt-units h = lt_of_not-le (λ l. not-le_of_lt h (fraction_le q p (pow_pos 1074) l))

  ltb-units : ltb a b ≡ ltb A B
  ltb-units =
      ⊎_elim (λ e. e ∙ sym (lt-ltb A B (lt-units (ltb-true a b e)))) (λ e. e ∙ sym (le-ltb A B (units-le q p (ltb-false a b e)))) (cases_Bool (ltb a b))

leb-units : {a b c A B : ℕ} → InUnits unit a c A → InUnits unit b c B → leb a b ≡ leb A B
leb-units {a} {b} {A = A} {B = B} p q =
    ⊎_elim (λ e. e ∙ sym (le-leb A B (units-le p q (leb-true a b e)))) (λ e. e ∙ sym (lt-leb A B (lt-units q p (leb-false a b e)))) (cases_Bool (leb a b))

pub le_is : (a b : ℕ) → (ltb a b || (eqb a b && true)) ≡ leb a b
le_is a b = grind arith

pub magnitude-lt : (f : Format) (x y : Float) → T (fits f x) → T (fits f y) → T (finite x) → T (finite y) → lt (float_with_sign false x) (float_with_sign false y) ≡ ltb (magnitude x) (magnitude y)
unfolding lt float_with_sign
magnitude-lt f nan y p q s t = absurd s
magnitude-lt f (inf r) y p q s t = absurd s
magnitude-lt f (fin r m e) nan p q s t = absurd t
magnitude-lt f (fin r m e) (inf u) p q s t = absurd t
magnitude-lt f (fin r m e) (fin u n d) p q s t =
    let x = fits-units f r m e p in
    let y = fits-units f u n d q in
    ltb-units (left-units x y) (right-units x y) ∙ sym (ap₂ ltb (nat_abs-signed r (scaled 1074 m e)) (nat_abs-signed u (scaled 1074 n d)))

pub magnitude-le : (f : Format) (x y : Float) → T (fits f x) → T (fits f y) → T (finite x) → T (finite y) → le (float_with_sign false x) (float_with_sign false y) ≡ leb (magnitude x) (magnitude y)
unfolding le float_with_sign
magnitude-le f nan y p q s t = absurd s
magnitude-le f (inf r) y p q s t = absurd s
magnitude-le f (fin r m e) nan p q s t = absurd t
magnitude-le f (fin r m e) (inf u) p q s t = absurd t
magnitude-le f (fin r m e) (fin u n d) p q s t =
    let x = fits-units f r m e p in
    let y = fits-units f u n d q in
    le_is (m * up e * down d) (n * up d * down e)
    ∙ leb-units (left-units x y) (right-units x y) ∙ sym (ap₂ leb (nat_abs-signed r (scaled 1074 m e)) (nat_abs-signed u (scaled 1074 n d)))

scaled-pos : (l m : ℕ) (e : ℤ) → 0 < m → 0 < scaled l m e
scaled-pos l m (pos k) h = mul-pos h (pow_pos _)
scaled-pos l m (negsuc k) h = mul-pos h (pow_pos _)

pub magnitude-pos : (x : Float) → T (finite x) → is_zero x ≡ false → 0 < magnitude x
magnitude-pos nan t h = absurd t
magnitude-pos (inf s) t h = absurd t
magnitude-pos (fin s m e) t h = rw (nat_abs-signed s (scaled 1074 m e)) (scaled-pos 1074 m e (lt_of_le-ne zero-le (λ z. eqb-false m 0 h (sym z))))

pub not-zero : (x : Float) → 0 < magnitude x → is_zero x ≡ false
not-zero x h =
    ⊎_elim (λ e. absurd (let none : magnitude x ≡ 0 = ap nat_abs (value-zero x e) in omega arith)) (λ e. e) (cases_Bool (is_zero x))

pub quotient-finite : (f : Format) (x y : Float) → T (fits f x) → T (fits f y) → T (finite x) → T (finite y) → is_zero y ≡ false → T (quotient_in_range f x y)
    → T (finite (div f x y))
quotient-finite f x y p q s t h r =
    ⊎_elim
    (λ z. (quotient_at_most_one f x y p q s (magnitude-pos y t h) (rw (ap nat_abs (value-zero x z)) zero-le)).0)
    (λ i. and_l (finite (div f x y)) (leb (least f) (magnitude (div f x y))) (subst T (sym i) tt))
    (or_cases (is_zero x) (in_range f (div f x y)) (is_true _ r))
