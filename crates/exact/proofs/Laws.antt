-- The law of one rounding for each operation: its operands taken apart, its fraction rounded (`Round`), and the result read in units again.
use Rattle.std.proofs.Common.{◌≡◌, ℕ, ◌+◌, ◌-◌, ◌*◌, ◌^◌, ◌<◌, ◌≤◌, Bool, true, false, cond, not, ◌||◌, T, eqb, ltb, ◌⊎◌, ℤ, pos, ◌+ℤ◌, ◌*ℤ◌, neg_ℤ, nat_abs, sym, refl, ap, ◌∙◌, subst, subst₂, inl, inr, ⊎_elim, zero-le, le_of_lt, lt_irrefl, mul-pos, mul-zero, zero-mul, arith, pow_pos}
use mathlib.Core.Bool.{beq}
use lib.IntN.{neg_ℤ-neg_ℤ, zero-*ℤ, *ℤ-zero, +ℤ_comm}
use lib.Arith.{lt_of_le-ne}
use lib.Ieee.{Float, nan, inf, fin, Format, binary32, binary64, prec, low, unlike, up, down, round, sum, add, neg, sub, mul, div, fits}
use lib.Ieee.Bits.{is_true}
use lib.Ieee.Fits.{up_pos, down_pos, neg-fits}
use lib.Ieee.Scale.{finite}
use Rattle.std.proofs.lemmas.Bool.{eqb-true, eqb-false, eq-eqb, ne_eqb, ltb-true, ltb-false, or_cases, cond-false}
use Rattle.exact.specs.Value.{unit, signed, scaled, value, magnitude}
use Rattle.exact.specs.Range.{in_range}
use Rattle.exact.specs.Rounding.{OneRounding, ProductLaw, SumLaw, DifferenceLaw, QuotientLaw, QuotientAtMostOne}
use Rattle.exact.proofs.Fraction.{InUnits, near-units, sum-units, difference-units, units-le, fraction_le, left-units, right-units, near-product, near-quotient}
use Rattle.exact.proofs.Signed.{signed-none, nat_abs-signed, signed_mul, signed_times, signed_add, signed_opposite, one_rounding, one_rounding_zero}
use Rattle.exact.proofs.Value.{value-zero, fits-units, fits_steps, round-value}
use Rattle.exact.proofs.Round.{result, Rounded, rounded_steps, rounded_in_range, rounded-zero, finite_at_most_one, result_at_most_one}

-- a NaN or an infinity, which has no value
no_value : (b s : Bool) → value (cond b nan (inf s)) ≡ pos 0
no_value true s = refl
no_value false s = refl

-- ---- product
zero-product : (m n u v : ℕ) → (m ≡ 0) ⊎ (n ≡ 0) → m * u * (n * v) ≡ 0
zero-product m n u v (inl e) = rw (e, zero-mul u, zero-mul (n * v))
zero-product m n u v (inr e) = rw (e, zero-mul v, mul-zero (m * u))

pub product_law : ProductLaw
unfolding mul
product_law f nan y p q t = one_rounding_zero (zero-*ℤ (value y)) refl
product_law f (inf s) nan p q t = one_rounding_zero refl refl
product_law f (inf s) (inf r) p q t = one_rounding_zero refl refl
product_law f (inf s) (fin r n d) p q t =
    one_rounding_zero (zero-*ℤ (value (fin r n d))) (ap (λ z. z *ℤ pos unit) (no_value (eqb n 0) (unlike s r)))
product_law f (fin s m e) nan p q t = one_rounding_zero (*ℤ-zero (value (fin s m e))) refl
product_law f (fin s m e) (inf r) p q t =
    one_rounding_zero (*ℤ-zero (value (fin s m e))) (ap (λ z. z *ℤ pos unit) (no_value (eqb m 0) (unlike s r)))
product_law f (fin s m e) (fin r n d) p q t =
    let u = unlike s r in
    let a = m * up e * (n * up d) in
    let c = down e * down d in
    let C : 0 < c = mul-pos (down_pos e) (down_pos d) in
    let w : Rounded f u a c =
    ⊎_elim (λ z. rounded-zero f u a c C (zero-product m n (up e) (up d) (⊎_elim (λ h. inl (eqb-true m 0 h)) (λ h. inr (eqb-true n 0 h)) (or_cases (eqb m 0) (eqb n 0) z))))
    (λ h. rounded_in_range f u a c C (subst T (sym h) tt))
    (or_cases (eqb m 0 || eqb n 0) (in_range f (round f u a c)) (is_true _ t)) in
    subst₂ (OneRounding (2 ^ prec f)) (sym (signed_mul s r (scaled 1074 m e) (scaled 1074 n d)))
    (sym (ap (λ z. z *ℤ pos unit) (round-value f u a c w.fine) ∙ signed_times u (result f a c) unit))
    (one_rounding (2 ^ prec f) u (scaled 1074 m e * scaled 1074 n d) (result f a c * unit)
    (near-product (fits-units f s m e p) (fits-units f r n d q) (result f a c) w.near))

-- ---- sum, of two fractions a / c and b / c that are A and B units
module _ (f : Format) {a b c A B v w : ℕ} (p : InUnits unit a c A) (q : InUnits unit b c B) (i : InUnits (2 ^ low f) a c v) (j : InUnits (2 ^ low f) b c w) where
  sum_alike : (s : Bool) → T (finite (round f s (a + b) c)) → OneRounding (2 ^ prec f) (signed s A +ℤ signed s B) (value (round f s (a + b) c))
  sum_alike s t =
      let r = rounded_steps f s (a + b) c (v + w) (sum-units i j) t in
      subst₂ (OneRounding (2 ^ prec f)) (sym (signed_add s A B)) (sym (round-value f s (a + b) c t))
      (one_rounding (2 ^ prec f) s (A + B) (result f (a + b) c) (near-units (sum-units p q) r.near))

  -- the larger has the sign s, which the result has too, unless it is zero
  sum_opposite : (s r : Bool) → b ≤ a → (r ≡ s) ⊎ (a ≤ b) → T (finite (round f r (a - b) c))
      → OneRounding (2 ^ prec f) (signed s A +ℤ signed (not s) B) (value (round f r (a - b) c))
  sum_opposite s r h k t =
      let g = rounded_steps f r (a - b) c (v - w) (difference-units i j) t in
      let sign : signed s (A - B) ≡ signed r (A - B) =
      ⊎_elim (λ e. ap (λ z. signed z (A - B)) (sym e)) (λ l. signed-none s r (A - B) (omega (arith, units-le p q l))) k in
      let e : signed s A +ℤ signed (not s) B ≡ signed r (A - B) = signed_opposite s A B (units-le q p h) ∙ sign in
      subst₂ (OneRounding (2 ^ prec f)) (sym e) (sym (round-value f r (a - b) c t))
      (one_rounding (2 ^ prec f) r (A - B) (result f (a - b) c) (near-units (difference-units p q) g.near))

module _ (f : Format) {a b c A B v w : ℕ} (p : InUnits unit a c A) (q : InUnits unit b c B) (i : InUnits (2 ^ low f) a c v) (j : InUnits (2 ^ low f) b c w) where
  sum-rounded : (s r : Bool) → T (finite (sum f s a r b c)) → OneRounding (2 ^ prec f) (signed s A +ℤ signed r B) (value (sum f s a r b c))
  unfolding sum
  sum-rounded false false t = sum_alike f p q i j false t
  sum-rounded true true t = sum_alike f p q i j true t
  sum-rounded false true t = go (ltb a b) refl t
    where
      go : (x : Bool) → ltb a b ≡ x → T (finite (cond x (round f true (b - a) c) (round f false (a - b) c)))
          → OneRounding (2 ^ prec f) (signed false A +ℤ signed true B) (value (cond x (round f true (b - a) c) (round f false (a - b) c)))
      go true e u = rw (+ℤ_comm (signed false A) (signed true B)) (sum_opposite f q p j i true true (le_of_lt (ltb-true a b e)) (inl refl) u)
      go false e u = sum_opposite f p q i j false false (ltb-false a b e) (inl refl) u
  sum-rounded true false t = go (ltb a b) refl (ltb b a) refl t
    where
      go : (x : Bool) → ltb a b ≡ x → (y : Bool) → ltb b a ≡ y → T (finite (cond x (round f false (b - a) c) (round f y (a - b) c)))
          → OneRounding (2 ^ prec f) (signed true A +ℤ signed false B) (value (cond x (round f false (b - a) c) (round f y (a - b) c)))
      go true e y g u = rw (+ℤ_comm (signed true A) (signed false B)) (sum_opposite f q p j i false false (le_of_lt (ltb-true a b e)) (inl refl) u)
      go false e true g u = sum_opposite f p q i j true true (ltb-false a b e) (inl refl) u
      go false e false g u = sum_opposite f p q i j true false (ltb-false a b e) (inr (ltb-false b a g)) u

infinite : (b s : Bool) → T (finite (cond b (inf s) nan)) → ⊥
infinite true s t = t
infinite false s t = t

pub sum-law : SumLaw
unfolding add
sum-law f nan y p q t = absurd t
sum-law f (inf s) nan p q t = absurd t
sum-law f (inf s) (inf r) p q t = absurd (infinite (beq s r) s t)
sum-law f (inf s) (fin r n d) p q t = absurd t
sum-law f (fin s m e) nan p q t = absurd t
sum-law f (fin s m e) (inf r) p q t = absurd t
sum-law f (fin s m e) (fin r n d) p q t =
    let x = fits-units f s m e p in
    let y = fits-units f r n d q in
    let i = fits_steps f s m e p in
    let j = fits_steps f r n d q in
    sum-rounded f (left-units x y) (right-units x y) (left-units i j) (right-units i j) s r t

value-neg : (y : Float) → value (neg y) ≡ neg_ℤ (value y)
unfolding neg
value-neg nan = refl
value-neg (inf s) = refl
value-neg (fin false m e) = refl
value-neg (fin true m e) = sym (neg_ℤ-neg_ℤ (pos (scaled 1074 m e)))

pub difference-law : DifferenceLaw
unfolding sub
difference-law f x y p q t =
    subst (λ z. OneRounding (2 ^ prec f) (value x +ℤ z) (value (add f x (neg y)))) (value-neg y)
    (sum-law f x (neg y) p (neg-fits f y q) t)

-- ---- quotient
zero_out_of_range : (f : Format) (s : Bool) → T (in_range f (fin s 0 (pos 0))) → ⊥
zero_out_of_range binary32 false t = t
zero_out_of_range binary32 true t = t
zero_out_of_range binary64 false t = t
zero_out_of_range binary64 true t = t

infinite_out_of_range : (f : Format) (b s : Bool) → T (in_range f (cond b nan (inf s))) → ⊥
infinite_out_of_range f true s t = t
infinite_out_of_range f false s t = t

-- out of range, so that the numerator is zero
zero-numerator : (m : ℕ) (b : Bool) → (T b → ⊥) → T (eqb m 0 || b) → eqb m 0 ≡ true
zero-numerator m b h t = ⊎_elim (λ e. e) (λ e. absurd (h (subst T (sym e) tt))) (or_cases (eqb m 0) b (is_true _ t))

unlike_twice : (s r : Bool) → unlike (unlike s r) r ≡ s
unlike_twice false false = refl
unlike_twice false true = refl
unlike_twice true false = refl
unlike_twice true true = refl

pub divisor-pos : (n : ℕ) (d e : ℤ) → eqb n 0 ≡ false → 0 < n * up d * down e
divisor-pos n d e h = let N : 0 < n = lt_of_le-ne zero-le (λ z. eqb-false n 0 h (sym z)) in mul-pos (mul-pos N (up_pos d)) (down_pos e)

quotient-rounded : (f : Format) (s : Bool) (m : ℕ) (e : ℤ) (r : Bool) (n : ℕ) (d : ℤ) → T (fits f (fin s m e)) → T (fits f (fin r n d)) → eqb n 0 ≡ false
    → T (eqb m 0 || in_range f (round f (unlike s r) (m * up e * down d) (n * up d * down e)))
    → OneRounding (2 ^ prec f) (value (fin s m e) *ℤ pos unit) (value (round f (unlike s r) (m * up e * down d) (n * up d * down e)) *ℤ value (fin r n d))
quotient-rounded f s m e r n d p q h t =
    let u = unlike s r in
    let a = m * up e * down d in
    let c = n * up d * down e in
    let C = divisor-pos n d e h in
    let w : Rounded f u a c =
    ⊎_elim (λ z. rounded-zero f u a c C (rw (eqb-true m 0 z, zero-mul (up e), zero-mul (down d))))
    (λ i. rounded_in_range f u a c C (subst T (sym i) tt))
    (or_cases (eqb m 0) (in_range f (round f u a c)) (is_true _ t)) in
    subst₂ (OneRounding (2 ^ prec f)) (sym (signed_times s (scaled 1074 m e) unit))
    (sym
    (ap (λ z. z *ℤ value (fin r n d)) (round-value f u a c w.fine)
    ∙ signed_mul u r (result f a c) (scaled 1074 n d)
    ∙ ap (λ b. signed b (result f a c * scaled 1074 n d)) (unlike_twice s r)))
    (one_rounding (2 ^ prec f) s (scaled 1074 m e * unit) (result f a c * scaled 1074 n d)
    (near-quotient (fits-units f s m e p) (fits-units f r n d q) (result f a c) w.near))

pub quotient-law : QuotientLaw
unfolding div
quotient-law f nan y p q t = one_rounding_zero refl (zero-*ℤ (value y))
quotient-law f (inf s) nan p q t = one_rounding_zero refl refl
quotient-law f (inf s) (inf r) p q t = one_rounding_zero refl refl
quotient-law f (inf s) (fin r n d) p q t = one_rounding_zero refl (zero-*ℤ (value (fin r n d)))
quotient-law f (fin s m e) nan p q t =
    one_rounding_zero (ap (λ z. z *ℤ pos unit) (value-zero (fin s m e) (zero-numerator m false (λ z. z) t))) refl
quotient-law f (fin s m e) (inf r) p q t =
    let u = unlike s r in
    one_rounding_zero (ap (λ z. z *ℤ pos unit) (value-zero (fin s m e) (zero-numerator m (in_range f (fin u 0 (pos 0))) (zero_out_of_range f u) t)))
    (*ℤ-zero (value (fin u 0 (pos 0))))
quotient-law f (fin s m e) (fin r n d) p q t = go (eqb n 0) refl t
  where
    go : (x : Bool) → eqb n 0 ≡ x
        → T (eqb m 0 || in_range f (cond x (cond (eqb m 0) nan (inf (unlike s r))) (round f (unlike s r) (m * up e * down d) (n * up d * down e))))
        → OneRounding (2 ^ prec f) (value (fin s m e) *ℤ pos unit)
        (value (cond x (cond (eqb m 0) nan (inf (unlike s r))) (round f (unlike s r) (m * up e * down d) (n * up d * down e))) *ℤ value (fin r n d))
    go true h k =
        let z = cond (eqb m 0) nan (inf (unlike s r)) in
        let none = zero-numerator m (in_range f z) (infinite_out_of_range f (eqb m 0) (unlike s r)) k in
        one_rounding_zero (ap (λ x. x *ℤ pos unit) (value-zero (fin s m e) none))
        (ap (λ x. x *ℤ value (fin r n d)) (no_value (eqb m 0) (unlike s r)) ∙ zero-*ℤ (value (fin r n d)))
    go false h k = quotient-rounded f s m e r n d p q h k

pub quotient_at_most_one : QuotientAtMostOne
unfolding div
quotient_at_most_one f nan y p q t h l = absurd t
quotient_at_most_one f (inf s) y p q t h l = absurd t
quotient_at_most_one f (fin s m e) nan p q t h l = absurd (lt_irrefl 0 h)
quotient_at_most_one f (fin s m e) (inf r) p q t h l = absurd (lt_irrefl 0 h)
quotient_at_most_one f (fin s m e) (fin r n d) p q t h l =
    let u = unlike s r in
    let a = m * up e * down d in
    let c = n * up d * down e in
    let x = fits-units f s m e p in
    let y = fits-units f r n d q in
    let some : eqb n 0 ≡ false = ne_eqb n 0 (λ z. lt_irrefl 0 (subst (λ k. 0 < k) (ap nat_abs (value-zero (fin r n d) (eq-eqb n 0 z))) h)) in
    let C = divisor-pos n d e some in
    let small : a ≤ c =
    fraction_le (left-units x y) (right-units x y) (pow_pos 1074)
    (subst₂ (λ i j. i ≤ j) (nat_abs-signed s (scaled 1074 m e)) (nat_abs-signed r (scaled 1074 n d)) l) in
    let fine = finite_at_most_one f u a c C small in
    let bound : magnitude (round f u a c) ≤ unit =
    rw (round-value f u a c fine, nat_abs-signed u (result f a c)) (result_at_most_one f a c C small) in
    subst (λ z. T (finite z) × (magnitude z ≤ unit)) (sym (cond-false (eqb n 0) (cond (eqb m 0) nan (inf u)) (round f u a c) some)) (fine, bound)
