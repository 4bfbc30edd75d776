-- A printed text is read as the number that it was printed for.
use Rattle.std.proofs.Common.{◌≡◌, ℕ, zero, suc, ◌+◌, ◌-◌, ◌*◌, ◌/◌, ◌%◌, ◌^◌, ◌<◌, ◌≤◌, Bool, true, false, cond, ◌&&◌, T, eqb, ltb, leb, ◌⊎◌, List, [], ◌∷◌, ◌++◌, length, drop, ℤ, pos, negsuc, is_some, Some, None, decimal, sym, refl, ap, ◌∙◌, subst, inl, inr, ⊎_elim, lt_of_lt_of_le, add-zero, lt_irrefl, mul-le-mul_right, pow-suc, div-one, arith, lit<, eqb→eq, ltb→lt, leb→le}
use lib.Count.{count_trailing_zeros, under}
use lib.Pow.{pow-lt}
use lib.Ieee.{Float, nan, inf, fin, Format, binary32, binary64, prec, emax, low, up, down, odd, fits}
use lib.Ieee as Ieee
use lib.Ieee.Bits.{is_true}
use lib.Ieee.Fits.{and_l, and_r}
use Rattle.std.specs.Str.Parse.{AllDigits, digits_value, starts_with_minus}
use Rattle.std.specs.Char.{digit_value}
use Rattle.std.specs.Fmt.{digits, signed_decimal}
use Rattle.std.proofs.lemmas.Fmt.{decimal_is_IsNumeral, length-decimal-le}
use Rattle.std.proofs.lemmas.Bool.{cases_lt, lt-ltb, le-leb, lt-leb, ne_eqb}
use Rattle.number_text.specs.Number.{digits_below, numeral, before, after, unsigned, and_then, scaled, whole_number, power, exact_number}
use Rattle.number_text.specs.Promises.{RoundTrip, PrintedIsExact, PrintedIsOdd}
use Rattle.number_text.proofs.Parts.{digits_from, numeral_given}
use Rattle.number_text.proofs.Patterns.{odd_pos, odd-zero}
use Rattle.number_text.proofs.Hexadecimal.{Hexadecimal, hexadecimal}

-- ---- numerals
numeral-is : (radix most : ℕ) (ds : List ℕ) (n : ℕ) → 0 < length ds → length ds ≤ most → digits_below radix ds ≡ true → digits_value radix ds ≡ n → numeral radix most ds ≡ Some n
numeral-is radix most ds n p h d v = sym (numeral_given radix most ds p h) ∙ (λ i. cond (d i) (Some (v i)) None)

pub below_from : (radix : ℕ) (ds : List ℕ) → AllDigits radix ds → digits_below radix ds ≡ true
below_from radix [] h = refl
below_from radix (c ∷ cs) h = (λ i. lt-ltb (digit_value c) radix h.0 i && below_from radix cs h.1 i)

decimal-numeral : (n : ℕ) → n < 10 ^ 4 → numeral 10 4 (decimal n) ≡ Some n
decimal-numeral n h =
    let r = decimal_is_IsNumeral n (omega arith) in
    numeral-is 10 4 (decimal n) n r.0.0 (length-decimal-le 4 n (omega arith) h (omega arith)) (below_from 10 (decimal n) r.0.1) r.1

-- a numeral does not begin with a minus
no_minus : (ds : List ℕ) → AllDigits 10 ds → starts_with_minus ds ≡ false
no_minus [] h = refl
no_minus (c ∷ cs) h = ne_eqb c 45 (λ e. let k : digit_value 45 < 10 = subst (λ x. digit_value x < 10) e h.0 in omega arith)

-- ---- the byte that ends the digits
not-p : (b : ℕ) → digit_value b < 16 → eqb b 112 ≡ false
not-p b h = ne_eqb b 112 (λ e. let k : digit_value 112 < 16 = subst (λ x. digit_value x < 16) e h in omega arith)

before-p : (ds rest : List ℕ) → AllDigits 16 ds → before 112 (ds ++ (112 ∷ rest)) ≡ ds
before-p [] rest h = refl
before-p (c ∷ cs) rest h = ap (λ t. cond t [] (c ∷ before 112 (cs ++ (112 ∷ rest)))) (not-p c h.0) ∙ ap (λ l. c ∷ l) (before-p cs rest h.1)

after-p : (ds rest : List ℕ) → AllDigits 16 ds → after 112 (ds ++ (112 ∷ rest)) ≡ rest
after-p [] rest h = refl
after-p (c ∷ cs) rest h = ap (λ t. cond t (cs ++ (112 ∷ rest)) (after 112 (cs ++ (112 ∷ rest)))) (not-p c h.0) ∙ after-p cs rest h.1

-- ---- the power
abbrev negative : ℤ → Bool
negative (pos n) = false
negative (negsuc n) = true

abbrev amount : ℤ → ℕ
amount (pos n) = n
amount (negsuc n) = suc n

power-sign : (e : ℤ) → amount e < 10 ^ 4 → starts_with_minus (signed_decimal e) ≡ negative e
power-sign (pos n) h = no_minus (decimal n) (decimal_is_IsNumeral n (omega arith)).0.1
power-sign (negsuc n) h = refl

power-digits : (e : ℤ) → amount e < 10 ^ 4 → numeral 10 4 (unsigned (signed_decimal e)) ≡ Some (amount e)
power-digits (pos n) h = ap (λ t. numeral 10 4 (cond t (drop 1 (decimal n)) (decimal n))) (power-sign (pos n) h) ∙ decimal-numeral n h
power-digits (negsuc n) h = decimal-numeral (suc n) h

-- ---- a value of the format in its odd form
record OddForm (f : Format) (s : Bool) (m : ℕ) (e : ℤ) : Type 0 where
  whole : m < 16 ^ 14
  exponent : amount e < 10 ^ 4
  parity : (m ≡ 0) ⊎ (m % 2 ≡ 1)
  same : scaled f s m (negative e) (amount e) ≡ Some (fin s m e)

limits : (f : Format) → (2 ^ prec f < 16 ^ 14) × (suc (emax f) < 10 ^ 4) × (low f < 10 ^ 4)
limits binary32 = (lit< tt, lit< tt, lit< tt)
limits binary64 = (lit< tt, lit< tt, lit< tt)

power-under : (a b : ℕ) → 2 ^ a ≤ 2 ^ b → a ≤ b
power-under a b h = ⊎_elim (λ l. absurd (lt_irrefl (2 ^ b) (lt_of_lt_of_le (pow-lt l) h))) (λ l. l) (cases_lt b a)

odd_already : (s : Bool) (m k l : ℕ) → m % 2 ≡ 1 → odd 64 s m k l ≡ fin s m (Ieee.minus k l)
unfolding count_trailing_zeros
odd_already s m k l h =
    let t : count_trailing_zeros 64 m ≡ 0 = ap (λ r. under r (count_trailing_zeros 63 (m / 2))) h in
    odd_pos 64 s m k l (omega arith) ∙ ap (λ z. fin s (m / 2 ^ z) (Ieee.minus (k + z) l)) t ∙ (λ i. fin s (div-one m i) (Ieee.minus (add-zero k i) l))

up_to : (n : ℕ) → Ieee.minus n 0 ≡ pos n
up_to n = let z : n - 0 ≡ n = omega arith in ap (λ t. cond t (pos (n - 0)) (negsuc (0 - suc n))) (le-leb 0 n (omega arith)) ∙ ap pos z

down_to : (n : ℕ) → Ieee.minus 0 (suc n) ≡ negsuc n
down_to n = let z : suc n - 1 ≡ n = omega arith in ap (λ t. cond t (pos (0 - suc n)) (negsuc (suc n - 1))) (lt-leb (suc n) 0 (omega arith)) ∙ ap negsuc z

held : (f : Format) (x y : Float) → y ≡ x → T (fits f x) → cond (fits f y) (Some y) None ≡ Some x
held f x y e h = ap (λ z. cond (fits f z) (Some z) None) e ∙ ap (λ t. cond t (Some x) None) (is_true (fits f x) h)

scaled-odd : (f : Format) (s : Bool) (m : ℕ) (e : ℤ) → m % 2 ≡ 1 → T (fits f (fin s m e)) → scaled f s m (negative e) (amount e) ≡ Some (fin s m e)
scaled-odd f s m (pos n) o h = held f (fin s m (pos n)) (odd 64 s m n 0) (odd_already s m n 0 o ∙ ap (fin s m) (up_to n)) h
scaled-odd f s m (negsuc n) o h = held f (fin s m (negsuc n)) (odd 64 s m 0 (suc n)) (odd_already s m 0 (suc n) o ∙ ap (fin s m) (down_to n)) h

power-fits : (f : Format) (m : ℕ) (e : ℤ) → 0 < m → down e ≤ 2 ^ low f → m * up e < 2 ^ suc (emax f) * down e → amount e < 10 ^ 4
power-fits f m (pos n) p l h =
    let k : 2 ^ n ≤ 2 ^ suc (emax f) = omega (arith, mul-le-mul_right (2 ^ n) p) in
    omega (arith, power-under n (suc (emax f)) k, limits f)
power-fits f m (negsuc n) p l h = omega (arith, power-under (suc n) (low f) l, limits f)

no_power : (e : ℤ) → up e * down e ≡ 1 → e ≡ pos 0
no_power (pos zero) h = refl
no_power (pos (suc k)) h = absurd (omega (arith, pow-suc 2 k))
no_power (negsuc k) h = absurd (omega (arith, pow-suc 2 k))

zero-form : (f : Format) (s : Bool) (e : ℤ) → e ≡ pos 0 → T (fits f (fin s 0 (pos 0))) → OddForm f s 0 e
zero-form f s e z h = subst (OddForm f s 0) (sym z) record {
  whole = lit< tt;
  exponent = lit< tt;
  parity = inl refl;
  same = held f (fin s 0 (pos 0)) (odd 64 s 0 0 0) (odd-zero 64 s 0 0 0 refl) h;
}

odd-form : (f : Format) (s : Bool) (m : ℕ) (e : ℤ) → T (fits f (fin s m e)) → OddForm f s m e
unfolding fits
odd-form f s zero e h = zero-form f s e (no_power e (eqb→eq (up e * down e) 1 h)) tt
odd-form f s (suc m) e h =
    let a = eqb (suc m % 2) 1 in
    let b = ltb (suc m) (2 ^ prec f) in
    let c = leb (down e) (2 ^ low f) in
    let d = ltb (suc m * up e) (2 ^ suc (emax f) * down e) in
    let abc = and_l (a && b && c) d h in
    let ab = and_l (a && b) c abc in
    let o : suc m % 2 ≡ 1 = eqb→eq (suc m % 2) 1 (and_l a b ab) in
    record {
      whole = omega (arith, ltb→lt (suc m) (2 ^ prec f) (and_r a b ab), limits f);
      exponent = power-fits f (suc m) e (omega arith) (leb→le (down e) (2 ^ low f) (and_r (a && b) c abc)) (ltb→lt (suc m * up e) (2 ^ suc (emax f) * down e) (and_r (a && b && c) d h));
      parity = inr o;
      same = scaled-odd f s (suc m) e o h;
    }

-- ---- what stands after `0x`
abbrev tail : ℕ → ℤ → List ℕ
tail m e = digits 16 false m ++ (112 ∷ signed_decimal e)

module _ (f : Format) (s : Bool) (m : ℕ) (e : ℤ) (o : OddForm f s m e) where
  hex : Hexadecimal m (digits 16 false m)
  hex = hexadecimal m o.whole

  rest : after 112 (tail m e) ≡ signed_decimal e
  rest = after-p (digits 16 false m) (signed_decimal e) (digits_from 16 (digits 16 false m) hex.below)

  tail-whole : whole_number (tail m e) ≡ Some m
  tail-whole =
      ap (numeral 16 14) (before-p (digits 16 false m) (signed_decimal e) (digits_from 16 (digits 16 false m) hex.below))
      ∙ numeral-is 16 14 (digits 16 false m) m hex.some hex.few hex.below hex.spells

  tail-power : power (tail m e) ≡ Some (amount e)
  tail-power = ap (λ l. numeral 10 4 (unsigned l)) rest ∙ power-digits e o.exponent

  tail-number : exact_number f s (tail m e) ≡ Some (fin s m e)
  tail-number =
      ap (λ w. and_then w (λ k. and_then (power (tail m e)) (λ n. scaled f s k (starts_with_minus (after 112 (tail m e))) n))) tail-whole
      ∙ ap (λ p. and_then p (λ n. scaled f s m (starts_with_minus (after 112 (tail m e))) n)) tail-power
      ∙ ap (λ t. scaled f s m t (amount e)) (ap starts_with_minus rest ∙ power-sign e o.exponent)
      ∙ o.same

-- ---- the promises
pub round_trip : RoundTrip
round_trip f nan q n = absurd n
round_trip f (inf s) q n = absurd n
round_trip f (fin true m e) q n = tail-number f true m e (odd-form f true m e q)
round_trip f (fin false m e) q n = tail-number f false m e (odd-form f false m e q)

pub printed-is-exact : PrintedIsExact
printed-is-exact f nan q n = absurd n
printed-is-exact f (inf s) q n = absurd n
printed-is-exact f (fin true m e) q n =
    let o = odd-form f true m e q in
    record { prefix = refl; digits = ap is_some (tail-whole f true m e o); exponent = ap is_some (tail-power f true m e o) }
printed-is-exact f (fin false m e) q n =
    let o = odd-form f false m e q in
    record { prefix = refl; digits = ap is_some (tail-whole f false m e o); exponent = ap is_some (tail-power f false m e o) }

pub printed-is-odd : PrintedIsOdd
printed-is-odd f nan q n = absurd n
printed-is-odd f (inf s) q n = absurd n
printed-is-odd f (fin true m e) q n = let o = odd-form f true m e q in (m, tail-whole f true m e o, o.parity)
printed-is-odd f (fin false m e) q n = let o = odd-form f false m e q in (m, tail-whole f false m e o, o.parity)
