-- A value of the format rounds to itself, and so +0 plus a value has that value.
use Rattle.std.proofs.Common.{◌≡◌, ℕ, zero, suc, ◌+◌, ◌-◌, ◌*◌, ◌%◌, ◌^◌, ◌<◌, Bool, true, false, cond, ◌&&◌, T, eqb, ltb, leb, ℤ, pos, negsuc, sym, refl, ap, ◌∙◌, subst, mul-pos, zero-mul, mul_right_comm, arith, lit<, ltb→lt, pow_pos}
use native.Mathlib.Nat.{eq_of_mul-eq-mul_right}
use lib.Ieee.{Float, nan, inf, fin, Format, prec, emax, low, up, down, round, sum, add, fits}
use lib.Ieee.Fits.{and_l, and_r, down_pos}
use lib.Ieee.Scale.{grid, finite, round_same}
use Rattle.std.proofs.lemmas.Bool.{ltb-false}
use Rattle.exact.specs.Value.{unit, signed, scaled, value}
use Rattle.exact.proofs.Digits.{rounded, rounded-exact}
use Rattle.exact.proofs.Signed.{signed-none}
use Rattle.exact.proofs.Value.{step, step-unit, fits-units, fits_steps, round-value}

-- a significand has at most p digits
significand : (f : Format) (s : Bool) (m : ℕ) (e : ℤ) → T (fits f (fin s m e)) → m < 2 ^ prec f
unfolding fits
significand f s zero e t = pow_pos (prec f)
significand f s (suc m) e t =
    let odd = eqb (suc m % 2) 1 in
    let short = ltb (suc m) (2 ^ prec f) in
    let deep = leb (down e) (2 ^ low f) in
    ltb→lt (suc m) (2 ^ prec f) (and_r odd short (and_l (odd && short) deep (and_l (odd && short && deep) (ltb (suc m * up e) (2 ^ suc (emax f) * down e)) t)))

rounded-scaled : (p l m : ℕ) (e : ℤ) (c : ℕ) → 0 < c → m < 2 ^ p → rounded p (scaled l m e * c) c ≡ scaled l m e
rounded-scaled p l m (pos k) c C h = rounded-exact p m (k + l) c C h
rounded-scaled p l m (negsuc k) c C h = rounded-exact p m (l - suc k) c C h

module _ (f : Format) (s : Bool) (m : ℕ) (e : ℤ) (t : T (fits f (fin s m e))) where
  own_grid : grid f (m * up e) (down e) ≡ scaled (low f) m e
  own_grid =
      ap (λ n. rounded (prec f) n (down e)) (sym (fits_steps f s m e t).whole)
      ∙ rounded-scaled (prec f) (low f) m e (down e) (down_pos e) (significand f s m e t)

  in_steps : scaled (low f) m e * step f ≡ scaled 1074 m e
  in_steps =
      let l = 2 ^ low f in
      let split : m * up e * l * step f ≡ m * up e * (step f * l) = omega arith in
      eq_of_mul-eq-mul_right (down e) (down_pos e) (scaled (low f) m e * step f) (scaled 1074 m e)
      (mul_right_comm (scaled (low f) m e) (step f) (down e)
      ∙ ap (λ x. x * step f) (fits_steps f s m e t).whole
      ∙ split
      ∙ ap (λ u. m * up e * u) (step-unit f)
      ∙ sym (fits-units f s m e t).whole)

  -- any fraction a / c that the value is
  round_own : (r : Bool) (a c : ℕ) → 0 < c → a * down e ≡ m * up e * c → T (finite (round f r a c)) → value (round f r a c) ≡ signed r (scaled 1074 m e)
  round_own r a c C q fine =
      let same : round f r a c ≡ round f r (m * up e) (down e) = round_same f r a c (m * up e) (down e) C (down_pos e) q in
      ap value same
      ∙ round-value f r (m * up e) (down e) (subst (λ z. T (finite z)) same fine)
      ∙ ap (signed r) (ap (λ g. g * step f) own_grid ∙ in_steps)

pub zero_plus : (f : Format) (y : Float) → T (fits f y) → T (finite (add f (fin false 0 (pos 0)) y)) → value (add f (fin false 0 (pos 0)) y) ≡ value y
unfolding add sum
zero_plus f nan p t = absurd t
zero_plus f (inf s) p t = absurd t
zero_plus f (fin false n d) p t =
    let q : (0 * down d + n * up d * 1) * down d ≡ n * up d * (1 * down d) = omega arith in
    round_own f false n d p false (0 * down d + n * up d * 1) (1 * down d) (mul-pos (lit< tt) (down_pos d)) q t
zero_plus f (fin true n d) p t = go (ltb (0 * down d) (n * up d * 1)) refl t
  where
    go : (x : Bool) → ltb (0 * down d) (n * up d * 1) ≡ x → T (finite (cond x (round f true (n * up d * 1 - 0 * down d) (1 * down d)) (round f false (0 * down d - n * up d * 1) (1 * down d))))
        → value (cond x (round f true (n * up d * 1 - 0 * down d) (1 * down d)) (round f false (0 * down d - n * up d * 1) (1 * down d))) ≡ signed true (scaled 1074 n d)
    go true h u =
        let num : n * up d * 1 - 0 * down d ≡ n * up d = omega arith in
        let q : (n * up d * 1 - 0 * down d) * down d ≡ n * up d * (1 * down d) = ap (λ x. x * down d) num ∙ omega arith in
        round_own f true n d p true (n * up d * 1 - 0 * down d) (1 * down d) (mul-pos (lit< tt) (down_pos d)) q u
    go false h u =
        let below = ltb-false (0 * down d) (n * up d * 1) h in
        let none : n * up d ≡ 0 = omega arith in
        let num : 0 * down d - n * up d * 1 ≡ n * up d = omega arith in
        let q : (0 * down d - n * up d * 1) * down d ≡ n * up d * (1 * down d) = ap (λ x. x * down d) num ∙ omega arith in
        let nothing : scaled 1074 n d * down d ≡ 0 * down d = (fits-units f true n d p).whole ∙ ap (λ x. x * unit) none ∙ zero-mul unit ∙ sym (zero-mul (down d)) in
        round_own f true n d p false (0 * down d - n * up d * 1) (1 * down d) (mul-pos (lit< tt) (down_pos d)) q u
        ∙ signed-none false true (scaled 1074 n d) (eq_of_mul-eq-mul_right (down d) (down_pos d) (scaled 1074 n d) 0 nothing)
