-- Lines as they are written: with the bytes so far, what is left to write comes to the whole.
use Rattle.std.proofs.Common.{◌≡◌, ℕ, ◌+◌, ◌<◌, ◌≤◌, List, [], ◌∷◌, ◌++◌, map, length, get_or, drop, sym, ap, ◌∙◌}
use lib.Ieee.{Float}
use Rattle.std.specs.List.{between}
use Rattle.std.proofs.lemmas.List.{append_assoc, append-nil, at_drop_more, at_drop_all, nil_from_length}
use Rattle.std.proofs.lemmas.Slice.{first_rest}
use Rattle.element.specs.Matrix.{Row, matrix}
use Rattle.number_text.specs.Printed.{printed}
use Rattle.text_model.specs.declared.Precision.{Precision}
use Rattle.text_model.specs.Words.{Word}
use Rattle.text_model.specs.Refusals.{decimal}
use Rattle.text_model.specs.Lines.{number_lines, line_after, line, row_lines, factors_word, factors_text}

-- a part written, which was the first of what is left
pub part_next : (done part left now whole : List ℕ) → now ≡ done ++ part → done ++ (part ++ left) ≡ whole → now ++ left ≡ whole
part_next done part left now whole e t = ap (λ bs. bs ++ left) e ∙ append_assoc done part left ∙ t

-- ---- numbers, one a line
module _ {X : Type 0} (v : X → Float) (xs : List X) where
  abbrev pub NumbersTo : List ℕ → ℕ → List ℕ → Type 0
  NumbersTo done i whole = done ++ number_lines (map v (drop i xs)) ≡ whole

  pub numbers_next : (done number now whole : List ℕ) (i : ℕ) (x : X) → i < length xs → x ≡ get_or xs i x → number ≡ done ++ printed (v x) → now ≡ number ++ 10 ∷ []
      → NumbersTo done i whole → NumbersTo now (i + 1) whole
  unfolding number_lines
  numbers_next done number now whole i x h e n l t =
      let left = number_lines (map v (drop (i + 1) xs)) in
      part_next number (10 ∷ []) left now whole l
      (part_next done (printed (v (get_or xs i x))) (10 ∷ left) number whole (n ∙ ap (λ y. done ++ printed (v y)) e)
      (sym (at_drop_more (λ ys. done ++ number_lines (map v ys)) xs i x h) ∙ t))

  pub numbers_end : (done whole : List ℕ) (i : ℕ) → length xs ≤ i → NumbersTo done i whole → done ≡ whole
  unfolding number_lines
  numbers_end done whole i h t = sym (append-nil done) ∙ sym (at_drop_all (λ ys. done ++ number_lines (map v ys)) xs i h) ∙ t

-- ---- a line: the words of xs with one space between them
-- the word of a number
abbrev pub number_word : {X : Type 0} → (X → Float) → X → Word
number_word v x = printed (v x)

-- the elements after the first
abbrev pub tail : {X : Type 0} → List X → List X
tail xs = between 1 (length xs) xs

module _ {X : Type 0} (word : X → Word) (xs : List X) where
  -- with the first word and i more written
  abbrev pub WordsTo : List ℕ → ℕ → List ℕ → Type 0
  WordsTo done i whole = done ++ line_after (map word (drop i (tail xs))) ≡ whole

  pub words-next : (done space now whole : List ℕ) (i : ℕ) (x : X) → i < length (tail xs) → x ≡ get_or (tail xs) i x → space ≡ done ++ 32 ∷ [] → now ≡ space ++ word x
      → WordsTo done i whole → WordsTo now (i + 1) whole
  unfolding line_after
  words-next done space now whole i x h e s w t =
      let left = line_after (map word (drop (i + 1) (tail xs))) in
      let one = word (get_or (tail xs) i x) in
      part_next space one left now whole (w ∙ ap (λ y. space ++ word y) e)
      (part_next done (32 ∷ []) (one ++ left) space whole s (sym (at_drop_more (λ ys. done ++ line_after (map word ys)) (tail xs) i x h) ∙ t))

  -- the line, after the bytes a
  module _ (a now : List ℕ) where
    pub line-none : length xs ≡ 0 → now ≡ a ++ 10 ∷ [] → now ≡ a ++ line (map word xs)
    line-none z e = e ∙ sym (ap (λ ys. a ++ line (map word ys)) (nil_from_length xs z))

    pub line_end : (first done : List ℕ) (i : ℕ) (x : X) → 0 < length xs → x ≡ get_or xs 0 x → first ≡ a ++ word x → length (tail xs) ≤ i
        → WordsTo done i (first ++ line_after (map word (tail xs))) → now ≡ done ++ 10 ∷ [] → now ≡ a ++ line (map word xs)
    unfolding line_after
    line_end first done i x h e f l t n =
        n ∙ sym (at_drop_all (λ ys. done ++ line_after (map word ys)) (tail xs) i l) ∙ t
        ∙ part_next a (word x) (line_after (map word (tail xs))) first _ f (ap (λ y. a ++ (word y ++ line_after (map word (tail xs)))) e)
        ∙ sym (ap (λ ys. a ++ line (map word ys)) (first_rest xs x h))

-- ---- the rows of a matrix that are left; v is what an element is as a float
module _ {X : Type 0} (v : X → Float) where
  abbrev pub RowsTo : List ℕ → List (List X) → List ℕ → Type 0
  RowsTo done rows whole = done ++ row_lines (map (map v) rows) ≡ whole

  pub rows_step : (done now whole : List ℕ) {rows rest : List (List X)} {r : List X} → rows ≡ r ∷ rest → now ≡ done ++ line (map printed (map v r)) → RowsTo done rows whole → RowsTo now rest whole
  unfolding row_lines
  rows_step done now whole {rest = rest} {r = r} steps w t =
      part_next done (line (map printed (map v r))) (row_lines (map (map v) rest)) now whole w (sym (ap (λ rs. done ++ row_lines (map (map v) rs)) steps) ∙ t)

  pub rows_last : (done whole : List ℕ) {rows : List (List X)} → rows ≡ [] → RowsTo done rows whole → done ≡ whole
  unfolding row_lines
  rows_last done whole none t = sym (append-nil done) ∙ sym (ap (λ rs. done ++ row_lines (map (map v) rs)) none) ∙ t

-- ---- the text of factors, after the bytes a
pub factors-parts : (a m1 m2 m3 m4 m5 : List ℕ) (p : Precision) (n : ℕ) (order : List ℕ) (lu : Row) → m1 ≡ a ++ factors_word p → m2 ≡ m1 ++ 32 ∷ [] → m3 ≡ m2 ++ decimal n → m4 ≡ m3 ++ 10 ∷ []
    → m5 ≡ m4 ++ line (map decimal order) → m5 ++ row_lines (matrix n lu) ≡ a ++ factors_text p n order lu
unfolding line_after
factors-parts a m1 m2 m3 m4 m5 p n order lu h1 h2 h3 h4 h5 = rw (h5, h4, h3, h2, h1) (regroup (factors_word p) (decimal n) (line (map decimal order)) (row_lines (matrix n lu)))
  where
    regroup : (w d o r : List ℕ) → (((((a ++ w) ++ 32 ∷ []) ++ d) ++ 10 ∷ []) ++ o) ++ r ≡ a ++ ((w ++ 32 ∷ (d ++ 10 ∷ [])) ++ (o ++ r))
    regroup w d o r = simp append_assoc
