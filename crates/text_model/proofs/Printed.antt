-- What is printed of numbers: the text of a finite float and the digits of a whole number are words, and lists of them are read back.
use Rattle.std.proofs.Common.{◌≡◌, ℕ, zero, suc, ◌+◌, ◌/◌, ◌%◌, ◌^◌, ◌<◌, ◌≤◌, min, true, false, cond, ◌&&◌, ◌||◌, T, eqb, ltb, leb, List, [], ◌∷◌, ◌++◌, map, length, ℤ, pos, negsuc, Some, None, Ok, Err, codes, All, Option, refl, ap, ◌∙◌, arith, leb→le}
use lib.Ieee.{Float, Format, nan, inf, fin}
use lib.Ieee.Bits.{is_true}
use lib.Ieee.Fits.{and_r}
use lib.Ieee.Scale.{finite}
use Rattle.std.specs.Str.Parse.{digits_value}
use Rattle.std.specs.Fmt.{digit_glyph, digits_onto, digits, signed_decimal}
use Rattle.std.proofs.lemmas.Fmt.{decimal_is_IsNumeral}
use Rattle.std.proofs.lemmas.List.Elements.{All-nil, All-cons, All-head, All-tail, All-append, All-from_get_or, All-map, All-weaker}
use Rattle.std.proofs.lemmas.Bool.{cond_both, lt-ltb, ne_eqb}
use Rattle.element.specs.Matrix.{Row, zero_float, at, all_finite}
use Rattle.element.specs.Multiply.{size_taken}
use Rattle.element.specs.Promises.{all_fit}
use Rattle.model.proofs.Slice.{FiniteValue, finite_at, fit_at}
use Rattle.number_text.specs.Number.{number_of, and_then}
use Rattle.number_text.specs.Printed.{printed}
use Rattle.number_text.proofs.RoundTrip.{round_trip, below_from}
use Rattle.text_model.specs.declared.TextRefusal.TheVariants.{Size, Form}
use Rattle.text_model.specs.Words.{Word, separator}
use Rattle.text_model.specs.Refusals.{decimal}
use Rattle.text_model.specs.Systems.{is_whole, size_of, all_of, numbers_of}
use Rattle.text_model.specs.Factors.{place, places_of}
use Rattle.text_model.proofs.Words.{Solid, IsWord}

-- ---- digits are no separators
large_solid : (b : ℕ) → 48 ≤ b → separator b ≡ false
large_solid b h =
    (λ i. (ne_eqb b 32 (λ e. omega arith) i || ne_eqb b 9 (λ e. omega arith) i || ne_eqb b 13 (λ e. omega arith) i || ne_eqb b 10 (λ e. omega arith) i))

glyph_solid : (d : ℕ) → separator (digit_glyph false d) ≡ false
glyph_solid d = cond_both (ltb d 10) (48 + d) (87 + d) (λ b. separator b ≡ false) (λ _. large_solid (48 + d) (omega arith)) (λ _. large_solid (87 + d) (omega arith))

solid_more : (b : ℕ) (w : List ℕ) → separator b ≡ false → Solid w → Solid (b ∷ w)
solid_more = All-cons (λ b. separator b ≡ false)

spelled_solid : (k base n : ℕ) (acc : List ℕ) → Solid acc → Solid (digits_onto k base false n acc)
spelled_solid zero base n acc h = h
spelled_solid (suc k) base n acc h =
    let more : Solid (digit_glyph false (n % base) ∷ acc) = solid_more (digit_glyph false (n % base)) acc (glyph_solid (n % base)) h in
    cond_both (eqb (n / base) 0) (digit_glyph false (n % base) ∷ acc) (digits_onto k base false (n / base) (digit_glyph false (n % base) ∷ acc)) Solid
    (λ _. more) (λ _. spelled_solid k base (n / base) (digit_glyph false (n % base) ∷ acc) more)

digits-solid : (base n : ℕ) → Solid (digits base false n)
unfolding digits
digits-solid base n = spelled_solid 64 base n [] (All-nil (λ b. separator b ≡ false))

-- ---- the text of a finite float
signed-solid : (e : ℤ) → Solid (signed_decimal e)
signed-solid (pos n) = digits-solid 10 n
signed-solid (negsuc n) = solid_more 45 (digits 10 false (suc n)) refl (digits-solid 10 (suc n))

number-solid : (m : ℕ) (e : ℤ) → Solid (codes "0x" ++ (digits 16 false m ++ (codes "p" ++ signed_decimal e)))
number-solid m e =
    let rest = digits 16 false m ++ (codes "p" ++ signed_decimal e) in
    solid_more 48 (120 ∷ rest) refl
    (solid_more 120 rest refl
    (All-append (λ b. separator b ≡ false) (digits 16 false m) (codes "p" ++ signed_decimal e) (digits-solid 16 m) (solid_more 112 (signed_decimal e) refl (signed-solid e))))

pub printed_word : (x : Float) → T (finite x) → IsWord (printed x)
printed_word nan t = absurd t
printed_word (inf s) t = absurd t
printed_word (fin true m e) t = record { some = omega arith; solid = solid_more 45 (codes "0x" ++ (digits 16 false m ++ (codes "p" ++ signed_decimal e))) refl (number-solid m e) }
printed_word (fin false m e) t = record { some = omega arith; solid = number-solid m e }

pub printed-words : (xs : Row) → T (all_finite xs) → All IsWord (map printed xs)
printed-words xs t = All-map IsWord printed xs (All-from_get_or (λ x. IsWord (printed x)) xs zero_float (λ i _. printed_word (at xs i) (finite_at xs t i)))

-- ---- what is printed one by one is read one by one
read_all : {A : Type 0} (one : Word → Option A) (shown : A → Word) (P : A → Type 0) → ((a : A) → P a → one (shown a) ≡ Some a) → (xs : List A) → All P xs → all_of one (map shown xs) ≡ Some xs
unfolding all_of
read_all one shown P each [] h = refl
read_all one shown P each (x ∷ xs) h =
    ap (λ o. and_then o (λ y. and_then (all_of one (map shown xs)) (λ ys. Some (y ∷ ys)))) (each x (All-head P x xs h))
    ∙ ap (λ o. and_then o (λ ys. Some (x ∷ ys))) (read_all one shown P each xs (All-tail P x xs h))

pub printed_numbers : (f : Format) (xs : Row) → T (all_finite xs) → T (all_fit f xs) → numbers_of f (map printed xs) ≡ Some xs
printed_numbers f xs t h =
    read_all (number_of f) printed (FiniteValue f) (λ x v. round_trip f x v.fit v.number) xs
    (All-from_get_or (FiniteValue f) xs zero_float (λ i _. record { fit = fit_at f xs h i; number = finite_at xs t i }))

-- ---- the digits of a whole number
module _ (n : ℕ) (small : n < 2 ^ 64) where
  pub decimal_word : IsWord (decimal n)
  decimal_word = record { some = (decimal_is_IsNumeral n small).0.0; solid = digits-solid 10 n }

  decimal-whole : is_whole (decimal n) ≡ true
  decimal-whole = (λ i. lt-ltb 0 (length (decimal n)) (decimal_is_IsNumeral n small).0.0 i && below_from 10 (decimal n) (decimal_is_IsNumeral n small).0.1 i)

  decimal-value : digits_value 10 (decimal n) ≡ n
  decimal-value = (decimal_is_IsNumeral n small).1

pub decimal-size : (n : ℕ) → T (size_taken n) → size_of (decimal n) ≡ Ok n
decimal-size n t =
    let small : n < 2 ^ 64 = omega (arith, leb→le n 128 (and_r (leb 1 n) (leb n 128) t)) in
    ap (λ c. cond c (cond (size_taken (digits_value 10 (decimal n))) (Ok (digits_value 10 (decimal n))) (Err Size)) (Err Form)) (decimal-whole n small)
    ∙ ap (λ v. cond (size_taken v) (Ok v) (Err Size)) (decimal-value n small)
    ∙ ap (λ c. cond c (Ok n) (Err Size)) (is_true (size_taken n) t)

decimal-place : (n : ℕ) → n ≤ 65535 → place (decimal n) ≡ Some n
decimal-place n h =
    let least : min n 65535 ≡ n = omega arith in
    ap (λ c. cond c (Some (min (digits_value 10 (decimal n)) 65535)) None) (decimal-whole n (omega arith))
    ∙ ap (λ v. Some (min v 65535)) (decimal-value n (omega arith))
    ∙ ap Some least

pub decimal-words : (is : List ℕ) → All (λ i. i ≤ 65535) is → All IsWord (map decimal is)
decimal-words is h = All-map IsWord decimal is (All-weaker (λ i. i ≤ 65535) (λ i. IsWord (decimal i)) (λ i small. decimal_word i (omega arith)) is h)

pub decimal-places : (is : List ℕ) → All (λ i. i ≤ 65535) is → places_of (map decimal is) ≡ Some is
decimal-places is h = read_all place decimal (λ i. i ≤ 65535) decimal-place is h
