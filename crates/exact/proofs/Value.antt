-- The exact value of a float that fits its format, and of what the logic library's `round` gives.
use Rattle.std.proofs.Common.{◌≡◌, ℕ, zero, suc, ◌+◌, ◌-◌, ◌*◌, ◌%◌, ◌^◌, ◌<◌, ◌≤◌, Bool, true, false, cond, ◌&&◌, T, eqb, ltb, leb, ℤ, pos, negsuc, sym, refl, ap, ◌∙◌, subst, inl, inr, le_trans, le_refl, mul_assoc, zero-mul, mul-one, sub-add_cancel, mul_right_comm, not-le_of_lt, arith, lit≤, ltb→lt, leb→le, pow_mono, pow-add}
use native.Mathlib.Nat.{eq_of_mul-eq-mul_right}
use lib.Pow.{pow-lt}
use lib.Ieee.{Float, nan, inf, fin, Format, binary32, binary64, prec, emax, low, up, down, odd, units, round, fits}
use lib.Ieee.Fits.{and_l, and_r, round_is, round-fits, down_pos}
use lib.Ieee.Exact.{HasValue, units_val}
use lib.Ieee.Order.{drop, kept}
use lib.Ieee.Scale.{grid, overflow, finite}
use Rattle.std.proofs.lemmas.Bool.{cases_lt, eqb-true}
use Rattle.exact.specs.Value.{unit, signed, scaled, value, is_zero}
use Rattle.exact.proofs.Fraction.{InUnits}
use Rattle.exact.proofs.Signed.{signed-zero}

-- the least value of a format, in units
abbrev pub step : Format → ℕ
step f = 2 ^ (1074 - low f)

low-le : (f : Format) → low f ≤ 1074
low-le binary32 = lit≤ tt
low-le binary64 = lit≤ tt

pub step-unit : (f : Format) → step f * 2 ^ low f ≡ unit
step-unit f = sym (pow-add 2 (1074 - low f) (low f)) ∙ ap (λ (k : ℕ). 2 ^ k) (sub-add_cancel (low-le f))

-- ---- m * 2^e is a whole number of units
le_of_pow_le : (j k : ℕ) → 2 ^ j ≤ 2 ^ k → j ≤ k
le_of_pow_le j k h = elim (cases_lt k j) [ inl l ↦ absurd (not-le_of_lt (pow-lt l) h) | inr l ↦ l ]

scaled_exact : (l m : ℕ) (e : ℤ) → down e ≤ 2 ^ l → scaled l m e * down e ≡ m * up e * 2 ^ l
scaled_exact l m (pos k) h = mul-one (m * 2 ^ (k + l)) ∙ ap (λ x. m * x) (pow-add 2 k l) ∙ sym (mul_assoc m (2 ^ k) (2 ^ l))
scaled_exact l m (negsuc k) h =
    mul_assoc m (2 ^ (l - suc k)) (2 ^ suc k)
    ∙ ap (λ x. m * x) (sym (pow-add 2 (l - suc k) (suc k)) ∙ ap (λ j. 2 ^ j) (sub-add_cancel (le_of_pow_le (suc k) l h)))
    ∙ ap (λ x. x * 2 ^ l) (sym (mul-one m))

scaled-zero : (l : ℕ) (e : ℤ) → scaled l 0 e ≡ 0
scaled-zero l (pos k) = zero-mul (2 ^ (k + l))
scaled-zero l (negsuc k) = zero-mul (2 ^ (l - suc k))

pub value-zero : (x : Float) → is_zero x ≡ true → value x ≡ pos 0
value-zero nan h = refl
value-zero (inf s) h = refl
value-zero (fin s m e) h = ap (λ k. signed s (scaled 1074 k e)) (eqb-true m 0 h) ∙ ap (signed s) (scaled-zero 1074 e) ∙ signed-zero s

-- in any unit that is no larger than the format's least value
fits-scaled : (f : Format) (l : ℕ) (s : Bool) (m : ℕ) (e : ℤ) → low f ≤ l → T (fits f (fin s m e)) → scaled l m e * down e ≡ m * up e * 2 ^ l
unfolding fits
fits-scaled f l s zero e h t =
    ap (λ x. x * down e) (scaled-zero l e) ∙ zero-mul (down e) ∙ sym (ap (λ x. x * 2 ^ l) (zero-mul (up e)) ∙ zero-mul (2 ^ l))
fits-scaled f l s (suc m) e h t =
    let short = eqb (suc m % 2) 1 && ltb (suc m) (2 ^ prec f) in
    let deep = leb (down e) (2 ^ low f) in
    let d = and_r short deep (and_l (short && deep) (ltb (suc m * up e) (2 ^ suc (emax f) * down e)) t) in
    scaled_exact l (suc m) e (le_trans (leb→le (down e) (2 ^ low f) d) (pow_mono h))

-- in units, and in multiples of the format's least value
pub fits-units : (f : Format) (s : Bool) (m : ℕ) (e : ℤ) → T (fits f (fin s m e)) → InUnits unit (m * up e) (down e) (scaled 1074 m e)
fits-units f s m e t = record { divisor = down_pos e; whole = fits-scaled f 1074 s m e (low-le f) t }

pub fits_steps : (f : Format) (s : Bool) (m : ℕ) (e : ℤ) → T (fits f (fin s m e)) → InUnits (2 ^ low f) (m * up e) (down e) (scaled (low f) m e)
fits_steps f s m e t = record { divisor = down_pos e; whole = fits-scaled f (low f) s m e (le_refl (low f)) t }

-- a value that is g times the least one of its format
value_of : (f : Format) (x : Float) (s : Bool) (g : ℕ) → T (fits f x) → HasValue x s g (2 ^ low f) → value x ≡ signed s (g * step f)
value_of f nan s g t v = absurd v
value_of f (inf r) s g t v = absurd v
value_of f (fin r m e) s g t v =
    let l = 2 ^ low f in
    let split : m * up e * (step f * l) ≡ m * up e * l * step f = omega arith in
    let whole : scaled 1074 m e * down e ≡ g * step f * down e =
    (fits-units f r m e t).whole
    ∙ ap (λ u. m * up e * u) (sym (step-unit f))
    ∙ split
    ∙ ap (λ x. x * step f) v.1
    ∙ mul_right_comm g (down e) (step f) in
    ap (λ b. signed b (scaled 1074 m e)) v.0 ∙ ap (signed s) (eq_of_mul-eq-mul_right (down e) (down_pos e) (scaled 1074 m e) (g * step f) whole)

-- ---- `round`, of either sign
units_under : (f : Format) (s : Bool) (q k : ℕ) → T (finite (units f s q k)) → q * 2 ^ k < overflow f
unfolding units
units_under f s q k = go (ltb (q * 2 ^ k) (overflow f)) (ltb→lt (q * 2 ^ k) (overflow f))
  where
    go : (b : Bool) → (T b → q * 2 ^ k < overflow f) → T (finite (cond b (odd (suc (prec f)) s q k (low f)) (inf s))) → q * 2 ^ k < overflow f
    go true h t = h tt
    go false h t = absurd t

has_value-finite : (x : Float) (s : Bool) (a c : ℕ) → HasValue x s a c → T (finite x)
has_value-finite nan s a c v = v
has_value-finite (inf r) s a c v = v
has_value-finite (fin r m e) s a c v = tt

-- what `round` keeps of a fraction, in multiples of the least value, and whether it overflows
module _ (f : Format) (s : Bool) (a c : ℕ) where
  rounds_to : round f s a c ≡ units f s (kept (prec f) (a * 2 ^ low f) c) (drop (prec f) (a * 2 ^ low f) c)
  rounds_to = round_is f s a c

  rounds_within : grid f a c < overflow f → HasValue (round f s a c) s (grid f a c) (2 ^ low f)
  rounds_within h =
      subst (λ z. HasValue z s (grid f a c) (2 ^ low f)) (sym rounds_to)
      (units_val f s (kept (prec f) (a * 2 ^ low f) c) (drop (prec f) (a * 2 ^ low f) c) h)

  pub round-finite : grid f a c < overflow f → T (finite (round f s a c))
  round-finite h = has_value-finite (round f s a c) s (grid f a c) (2 ^ low f) (rounds_within h)

  pub round-value : T (finite (round f s a c)) → value (round f s a c) ≡ signed s (grid f a c * step f)
  round-value t =
      let within = units_under f s (kept (prec f) (a * 2 ^ low f) c) (drop (prec f) (a * 2 ^ low f) c) (subst (λ z. T (finite z)) rounds_to t) in
      value_of f (round f s a c) s (grid f a c) (round-fits f s a c) (rounds_within within)
