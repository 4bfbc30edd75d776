-- What the logic library's `round` gives of a fraction a / c, in units: near a / c by one part in 2^p, in the normal range and at whole multiples of the format's least value.
use Rattle.std.proofs.Common.{◌≡◌, ℕ, suc, ◌+◌, ◌-◌, ◌*◌, ◌^◌, ◌<◌, ◌≤◌, Bool, T, leb, nat_abs, ap, ◌∙◌, subst, le_trans, le_of_eq, lt_of_lt_of_le, lt_of_le_of_lt, mul-le-mul_right, mul_comm, lt_of_mul-lt-mul_right, zero-mul, mul_right_comm, arith, lit<, leb→le}
use lib.Pow.{pow-lt}
use lib.Ieee.{Format, binary32, binary64, prec, emax, low, round}
use lib.Ieee.Fits.{two, two-le_pos, and_l, and_r}
use lib.Ieee.Scale.{grid, finite, normal_of_rounded}
use Rattle.exact.specs.Value.{unit, magnitude}
use Rattle.exact.specs.Range.{least, in_range}
use Rattle.exact.proofs.Near.{Relative, relative_scale}
use Rattle.exact.proofs.Fraction.{InUnits}
use Rattle.exact.proofs.Digits.{rounded, rounded-near, rounded-whole, rounded-le}
use Rattle.exact.proofs.Signed.{nat_abs-signed}
use Rattle.exact.proofs.Value.{step, step-unit, round-finite, round-value}

-- the magnitude of a / c rounded, in units
abbrev pub result : Format → ℕ → ℕ → ℕ
result f a c = grid f a c * step f

in_units_lem : (f : Format) (a c n : ℕ) → Relative n (grid f a c * c) (a * 2 ^ low f) → Relative n (result f a c * c) (a * unit)
in_units_lem f a c n e =
    let l : grid f a c * c * step f ≡ result f a c * c = mul_right_comm (grid f a c) c (step f) in
    let r : a * 2 ^ low f * step f ≡ a * unit = omega arith ∙ ap (λ (u : ℕ). a * u) (step-unit f) in
    subst (λ (x : ℕ). Relative n x (a * unit)) l (subst (λ (y : ℕ). Relative n (grid f a c * c * step f) y) r (relative_scale (step f) e))

-- `round` gives a finite value of a / c, near it by one part in 2^p
pub record Rounded (f : Format) (s : Bool) (a c : ℕ) : Type 0 where
  pub fine : T (finite (round f s a c))
  pub near : Relative (2 ^ prec f) (result f a c * c) (a * unit)

digits-pos : (f : Format) → 0 < prec f
digits-pos f = two-le_pos (prec f) (two f)

-- ---- at a whole multiple of the format's least value
pub rounded_steps : (f : Format) (s : Bool) (a c w : ℕ) → InUnits (2 ^ low f) a c w → T (finite (round f s a c)) → Rounded f s a c
rounded_steps f s a c w u t =
    record {
      fine = t;
      near =
          in_units_lem f a c (2 ^ prec f)
          (subst (λ n. Relative (2 ^ prec f) (rounded (prec f) n c * c) n) u.whole (rounded-whole (prec f) w c (digits-pos f) u.divisor));
    }

-- ---- in range, since the normal range begins below the least magnitude in range
least-normal : (f : Format) → 2 ^ (prec f - 1) * step f < least f
least-normal binary32 = lit< tt
least-normal binary64 = lit< tt

pub rounded_in_range : (f : Format) (s : Bool) (a c : ℕ) → 0 < c → T (in_range f (round f s a c)) → Rounded f s a c
rounded_in_range f s a c C t =
    let z = round f s a c in
    let fine = and_l (finite z) (leb (least f) (magnitude z)) t in
    let large : least f ≤ result f a c =
    subst (λ x. least f ≤ x) (ap nat_abs (round-value f s a c fine) ∙ nat_abs-signed s (result f a c))
    (leb→le (least f) (magnitude z) (and_r (finite z) (leb (least f) (magnitude z)) t)) in
    let normal = normal_of_rounded f a c (lt_of_mul-lt-mul_right (step f) (lt_of_lt_of_le (least-normal f) large)) in
    record { fine = fine; near = in_units_lem f a c (2 ^ prec f) (rounded-near (prec f) (a * 2 ^ low f) c (digits-pos f) C normal) }

-- ---- a fraction of at most 1
at_most_one : (f : Format) (a c : ℕ) → 0 < c → a ≤ c → grid f a c ≤ 2 ^ low f
at_most_one f a c C h =
    rounded-le (prec f) (low f) (a * 2 ^ low f) c (digits-pos f) C (le_trans (mul-le-mul_right (2 ^ low f) h) (le_of_eq (mul_comm c (2 ^ low f))))

pub finite_at_most_one : (f : Format) (s : Bool) (a c : ℕ) → 0 < c → a ≤ c → T (finite (round f s a c))
finite_at_most_one f s a c C h =
    let further : low f < low f + suc (emax f) = omega arith in
    round-finite f s a c (lt_of_le_of_lt (at_most_one f a c C h) (pow-lt further))

pub result_at_most_one : (f : Format) (a c : ℕ) → 0 < c → a ≤ c → result f a c ≤ unit
result_at_most_one f a c C h =
    le_trans (mul-le-mul_right (step f) (at_most_one f a c C h)) (le_of_eq (mul_comm (2 ^ low f) (step f) ∙ step-unit f))

pub rounded-zero : (f : Format) (s : Bool) (a c : ℕ) → 0 < c → a ≡ 0 → Rounded f s a c
rounded-zero f s a c C e =
    let small : a ≤ c = omega arith in
    let none : 0 * c ≡ a * 2 ^ low f = rw (e, zero-mul c, zero-mul (2 ^ low f)) in
    rounded_steps f s a c 0 (record { divisor = C; whole = none }) (finite_at_most_one f s a c C small)
