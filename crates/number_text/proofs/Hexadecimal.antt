-- The hexadecimal digits of a number spell that number.
use Rattle.std.proofs.Common.{◌≡◌, ℕ, zero, suc, ◌+◌, ◌-◌, ◌*◌, ◌/◌, ◌%◌, ◌^◌, ◌<◌, ◌≤◌, Bool, true, false, cond, ◌&&◌, eqb, List, [], ◌∷◌, length, sym, refl, ap, ◌∙◌, subst, ⊎_elim, pow-suc, arith}
use Rattle.std.specs.Str.Parse.{digits_value, digits_value_after}
use Rattle.std.specs.Char.{digit_value}
use Rattle.std.specs.Fmt.{digit_glyph, digits_onto, digits}
use Rattle.std.proofs.DigitsParse.{digits_onto-nil}
use Rattle.std.proofs.lemmas.Bool.{cases_lt, cond_below, cond_above, lt-ltb, eqb-true, eqb-false}
use Rattle.number_text.specs.Number.{digits_below}

glyph_value : (d : ℕ) → d < 16 → digit_value (digit_glyph false d) ≡ d
glyph_value d h = ⊎_elim low high (cases_lt d 10)
  where
    low : d < 10 → digit_value (digit_glyph false d) ≡ d
    low l =
        ap digit_value (sym (cond_below d 10 (48 + d) (87 + d) l))
        ∙ sym (cond_above (48 + d) 48 36 _ _ (omega arith) (cond_below (48 + d) 58 (48 + d - 48) _ (omega arith))) ∙ omega arith

    high : 10 ≤ d → digit_value (digit_glyph false d) ≡ d
    high l =
        ap digit_value (sym (cond_above d 10 (48 + d) (87 + d) (87 + d) l refl))
        ∙ sym (cond_above (87 + d) 48 36 _ _ (omega arith) (cond_above (87 + d) 58 _ _ _ (omega arith) (cond_above (87 + d) 65 36 _ _ (omega arith) (cond_above (87 + d) 91 _ _ _ (omega arith) (cond_above (87 + d) 97 36 _ _ (omega arith) (cond_below (87 + d) 123 (87 + d - 87) 36 (omega arith)))))))
        ∙ omega arith

abbrev Spells : ℕ → List ℕ → List ℕ → Type 0
Spells n acc l = (digits_value 16 l ≡ digits_value_after 16 n acc) × (digits_below 16 l ≡ true) × (length acc ≤ length l)

hex-by : (t : Bool) (g : ℕ) (n : ℕ) (acc l : List ℕ) → digit_value g ≡ n % 16 → eqb (n / 16) 0 ≡ t → digits_below 16 acc ≡ true → Spells (n / 16) (g ∷ acc) l → Spells n acc (cond t (g ∷ acc) l)
hex-by true g n acc l is e d r = (
  ap (λ m. digits_value_after 16 m acc) {x = 0 * 16 + digit_value g} {y = n} (omega (arith, is, eqb-true (n / 16) 0 e)),
  ap (λ t. t && digits_below 16 acc) (lt-ltb (digit_value g) 16 (omega arith)) ∙ d,
  omega arith,
)
hex-by false g n acc l is e d r = (r.0 ∙ ap (λ m. digits_value_after 16 m acc) {x = n / 16 * 16 + digit_value g} {y = n} (omega arith), r.1, omega arith)

hex_reads : (k n : ℕ) (acc : List ℕ) → n < 2 ^ k → digits_below 16 acc ≡ true → Spells n acc (digits_onto k 16 false n acc)
hex_reads zero n acc h d = (ap (λ m. digits_value_after 16 m acc) {x = 0} {y = n} (omega arith), d, omega arith)
hex_reads (suc k) n acc h d =
    let g = digit_glyph false (n % 16) in
    let is : digit_value (digit_glyph false (n % 16)) ≡ n % 16 = glyph_value (n % 16) (omega arith) in
    let more : digits_below 16 (digit_glyph false (n % 16) ∷ acc) ≡ true = ap (λ t. t && digits_below 16 acc) (lt-ltb (digit_value (digit_glyph false (n % 16))) 16 (omega arith)) ∙ d in
    hex-by (eqb (n / 16) 0) (digit_glyph false (n % 16)) n acc (digits_onto k 16 false (n / 16) (digit_glyph false (n % 16) ∷ acc)) is refl d
    (hex_reads k (n / 16) (digit_glyph false (n % 16) ∷ acc) (omega (arith, pow-suc 2 k)) more)

some-by : (t : Bool) (g : ℕ) (acc l : List ℕ) → suc (length acc) ≤ length l → 0 < length (cond t (g ∷ acc) l)
some-by true g acc l h = omega arith
some-by false g acc l h = omega arith

few-by : (t : Bool) (j n g : ℕ) (acc l : List ℕ) → n < 16 ^ suc j → eqb (n / 16) 0 ≡ t → ((i : ℕ) → n / 16 < 16 ^ suc i → length l ≤ suc i + suc (length acc)) → length (cond t (g ∷ acc) l) ≤ suc j + length acc
few-by true j n g acc l h e r = omega arith
few-by false zero n g acc l h e r = absurd (eqb-false (n / 16) 0 e (omega arith))
few-by false (suc j) n g acc l h e r = omega (arith, r j (omega (arith, pow-suc 16 (suc j))))

hex-few : (k j n : ℕ) (acc : List ℕ) → n < 16 ^ suc j → length (digits_onto k 16 false n acc) ≤ suc j + length acc
hex-few zero j n acc h = omega arith
hex-few (suc k) j n acc h =
    few-by (eqb (n / 16) 0) j n (digit_glyph false (n % 16)) acc (digits_onto k 16 false (n / 16) (digit_glyph false (n % 16) ∷ acc)) h refl (λ i l. hex-few k i (n / 16) (digit_glyph false (n % 16) ∷ acc) l)

pub record Hexadecimal (n : ℕ) (ds : List ℕ) : Type 0 where
  pub spells : digits_value 16 ds ≡ n
  pub below : digits_below 16 ds ≡ true
  pub some : 0 < length ds
  pub few : length ds ≤ 14

pub hexadecimal : (n : ℕ) → n < 16 ^ 14 → Hexadecimal n (digits 16 false n)
hexadecimal n h = subst (Hexadecimal n) (digits_onto-nil 16 false n) record {
  spells = (hex_reads 64 n [] (omega arith) refl).0;
  below = (hex_reads 64 n [] (omega arith) refl).1;
  some = some-by (eqb (n / 16) 0) (digit_glyph false (n % 16)) [] (digits_onto 63 16 false (n / 16) (digit_glyph false (n % 16) ∷ [])) (hex_reads 63 (n / 16) (digit_glyph false (n % 16) ∷ []) (omega arith) one).2;
  few = hex-few 64 13 n [] h;
}
  where
    one : digits_below 16 (digit_glyph false (n % 16) ∷ []) ≡ true
    one = ap (λ t. t && true) (lt-ltb (digit_value (digit_glyph false (n % 16))) 16 (omega (arith, glyph_value (n % 16) (omega arith))))
