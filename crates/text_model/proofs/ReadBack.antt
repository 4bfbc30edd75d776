-- Factors are read back as they were printed, whatever text follows them.
use Rattle.std.proofs.Common.{false, ◌≡◌, ℕ, ◌*◌, ◌^◌, ◌<◌, ◌≤◌, cond, ◌&&◌, leb, List, [], ◌∷◌, ◌++◌, map, length, get_or, take, drop, Some, Ok, Err, codes, All, refl, ap, ◌∙◌, ap₂, append_assoc, arith, leb→le}
use lib.Ieee.Fits.{and_r}
use Rattle.std.proofs.lemmas.List.Elements.{All-from_recursion, All-from_get_or}
use Rattle.std.proofs.lemmas.List.{length-map, take_at, drop_at}
use Rattle.std.proofs.lemmas.Bool.{eq-eqb, le-ltb}
use Rattle.element.specs.Matrix.{Row, matrix}
use Rattle.model.specs.Promises.{Square}
use Rattle.model.proofs.Slice.{flat-rows_of}
use Rattle.number_text.specs.Printed.{printed}
use Rattle.text_model.specs.declared.Precision.{Precision}
use Rattle.text_model.specs.declared.Precision.TheVariants.{Double, Single}
use Rattle.text_model.specs.declared.TextRefusal.TheVariants.{Size, Count}
use Rattle.text_model.specs.Words.{Word, separator, words_of}
use Rattle.text_model.specs.Refusals.{decimal}
use Rattle.text_model.specs.Systems.{longest, format, sized, named, head_of, text_head, numbers_of}
use Rattle.text_model.specs.Factors.{Factored, places_of, complete, factors_after}
use Rattle.text_model.specs.Lines.{line, row_lines, factors_word, factors_text}
use Rattle.text_model.specs.Promises.{FactorsReadBack}
use Rattle.text_model.proofs.Words.{IsWord, words-line, words-row_lines}
use Rattle.text_model.proofs.Printed.{printed-words, printed_numbers, decimal_word, decimal-words, decimal-size, decimal-places}

-- ---- the head
name_word : (p : Precision) → IsWord (factors_word p)
name_word Double = record { some = omega arith; solid = All-from_recursion (λ b. separator b ≡ false) (codes "factors") (refl, (refl, (refl, (refl, (refl, (refl, (refl, tt))))))) }
name_word Single = record { some = omega arith; solid = All-from_recursion (λ b. separator b ≡ false) (codes "factors32") (refl, (refl, (refl, (refl, (refl, (refl, (refl, (refl, (refl, tt))))))))) }

named_by : (p : Precision) (ws : List Word) → head_of (codes "factors") (factors_word p ∷ ws) ≡ named (Some p) ws
named_by Double ws = refl
named_by Single ws = refl

-- ---- the words of the text, and what they are read as
module _ (p : Precision) (n : ℕ) (order : List ℕ) (lu : Row) (r : List ℕ) (square : Square (format p) n lu) (long : length order ≡ n) (within : (i : ℕ) → get_or order i 0 ≤ 65535) where
  abbrev rest : List Word
  rest = map decimal order ++ (map printed lu ++ words_of r)

  small : All (λ i. i ≤ 65535) order
  small = All-from_get_or (λ i. i ≤ 65535) order 0 (λ i _. within i)

  size_small : n < 2 ^ 64
  size_small = omega (arith, leb→le n 128 (and_r (leb 1 n) (leb n 128) square.size))

  words-rows : words_of (row_lines (matrix n lu) ++ r) ≡ map printed lu ++ words_of r
  words-rows =
      let same = flat-rows_of n n lu square.long in
      words-row_lines (matrix n lu) r (rw same (printed-words lu square.finite)) ∙ ap (λ xs. map printed xs ++ words_of r) same

  words_text : words_of (factors_text p n order lu ++ r) ≡ factors_word p ∷ decimal n ∷ rest
  words_text =
      let head = factors_word p ∷ decimal n ∷ [] in
      let rows = row_lines (matrix n lu) in
      ap words_of (append_assoc (line head) (line (map decimal order) ++ rows) r)
      ∙ words-line head ((line (map decimal order) ++ rows) ++ r) (All-from_recursion IsWord head (name_word p, (decimal_word n size_small, tt)))
      ∙ ap (λ ws. head ++ ws)
      (ap words_of (append_assoc (line (map decimal order)) rows r) ∙ words-line (map decimal order) (rows ++ r) (decimal-words order small) ∙ ap (λ ws. map decimal order ++ ws) words-rows)

  head_text : length (factors_text p n order lu ++ r) ≤ longest → text_head (codes "factors") (factors_text p n order lu ++ r) ≡ Ok (record { precision = p; size = n; rest = rest })
  head_text short =
      ap (λ c. cond c (Err Size) (head_of (codes "factors") (words_of (factors_text p n order lu ++ r)))) (le-ltb longest (length (factors_text p n order lu ++ r)) short)
      ∙ ap (head_of (codes "factors")) words_text
      ∙ named_by p (decimal n ∷ rest)
      ∙ ap (sized p rest) (decimal-size n square.size)

  after-order : drop n rest ≡ map printed lu ++ words_of r
  after-order = drop_at (map decimal order) (map printed lu ++ words_of r) n (length-map order decimal ∙ long)

  lu-words : length (map printed lu) ≡ n * n
  lu-words = length-map lu printed ∙ square.long

  places_text : places_of (take n rest) ≡ Some order
  places_text = ap places_of (take_at (map decimal order) (map printed lu ++ words_of r) n (length-map order decimal ∙ long)) ∙ decimal-places order small

  numbers_text : numbers_of (format p) (take (n * n) (drop n rest)) ≡ Some lu
  numbers_text =
      ap (λ ws. numbers_of (format p) (take (n * n) ws)) after-order
      ∙ ap (numbers_of (format p)) (take_at (map printed lu) (words_of r) (n * n) lu-words)
      ∙ printed_numbers (format p) lu square.finite square.fit

  rest_text : drop (n * n) (drop n rest) ≡ words_of r
  rest_text = ap (drop (n * n)) after-order ∙ drop_at (map printed lu) (words_of r) (n * n) lu-words

  -- the factors with the words ws after them
  abbrev read : List Word → Factored
  read ws = record { precision = p; size = n; order = order; lu = lu; rest = ws }

  factors_text_lem : factors_after (Ok (record { precision = p; size = n; rest = rest })) ≡ Ok (read (words_of r))
  factors_text_lem =
      ap₂ (complete (record { precision = p; size = n; rest = rest })) places_text numbers_text
      ∙ ap₂ (λ a b. cond (a && b) (Ok (read (drop (n * n) (drop n rest)))) (Err Count)) (eq-eqb (length order) n long) (eq-eqb (length lu) (n * n) square.long)
      ∙ ap (λ ws. Ok (read ws)) rest_text

pub factors-read-back : FactorsReadBack
factors-read-back p n order lu r square long within short = ap factors_after (head_text p n order lu r square long within short) ∙ factors_text_lem p n order lu r square long within
