-- Elimination of one column as loops over a row's entries and over the rows take it. v is what an element is as a float.
use Rattle.std.proofs.Common.{◌≡◌, ℕ, ◌+◌, ◌-◌, ◌<◌, ◌≤◌, Bool, true, false, ◌&&◌, ◌||◌, List, [], ◌∷◌, ◌++◌, map, length, take, drop, set, is_some, Some, None, Option, ◌⊎◌, inl, inr, sym, ap, ◌∙◌, ap₂, arith}
use mathlib.Core.Bool.{and_assoc, and-true}
use lib.Ieee.{Float, Format}
use Rattle.std.proofs.lemmas.List.{drop-map, take_rest, append-nil, append_assoc, get_or-set_other, take_all, drop_all, take_more_set, drop_more, drop-set-lt}
use Rattle.std.proofs.lemmas.List.{length-map, length-set, map-set}
use Rattle.factor.proofs.Flat.{read, read-at, row-taken, length-matrix}
use Rattle.exact.specs.Value.{is_zero}
use Rattle.exact.specs.Range.{in_range}
use Rattle.element.specs.Matrix.{Row, Matrix, zero_float, at, row}
use Rattle.element.specs.Products.{Gives, subtract_product, subtraction_in_range}
use Rattle.model.specs.Factor.{subtract_row, subtract_row_in_range, multiplier, eliminate_row, eliminate_row_in_range, eliminate_rows, eliminate_rows_in_range}

-- ---- the tests of one row
pub gives_some : {X : Type 0} (v : X → Float) (test : Bool) (x : Float) (o : Option X) → Gives v test x o → is_some o ≡ test
gives_some v test x None e = sym e
gives_some v test x (Some y) e = sym e.0

module _ {X : Type 0} (v : X → Float) (f : Format) (l : Float) where
  -- with the tests so far come to `passed`, and xs and ps left of the row and of the pivot's row, all of them come to p
  abbrev pub RowTestsTo : Bool → List X → List X → Bool → Type 0
  RowTestsTo passed xs ps p = (passed && subtract_row_in_range f l (map v ps) (map v xs)) ≡ p

  -- the quotient's test, and what is left right of column k
  pub row_tests_start : (k : ℕ) (row pivot xs ps : List X) (zero ranged : Bool) → l ≡ multiplier f k (map v pivot) (map v row) → zero ≡ is_zero (at (map v row) k) → ranged ≡ in_range f l
      → xs ≡ take (length row - (k + 1)) (drop (k + 1) row) → ps ≡ take (length pivot - (k + 1)) (drop (k + 1) pivot)
      → RowTestsTo (zero || ranged) xs ps (eliminate_row_in_range f k (map v pivot) (map v row))
  row_tests_start k row pivot xs ps zero ranged e z r x p =
      let right : (ys zs : List X) → ys ≡ take (length zs - (k + 1)) (drop (k + 1) zs) → map v ys ≡ drop (k + 1) (map v zs) =
      λ ys zs h. ap (map v) (h ∙ take_rest zs (k + 1)) ∙ sym (drop-map v (k + 1) zs) in
      ap₂ ◌&&◌ (ap₂ ◌||◌ z (r ∙ ap (in_range f) e)) (ap₂ (subtract_row_in_range f l) (right ps pivot p) (right xs row x) ∙ ap (λ m. subtract_row_in_range f m (drop (k + 1) (map v pivot)) (drop (k + 1) (map v row))) e)

  pub row_tests_next : (passed test : Bool) {x q : X} {xs ps xs' ps' : List X} {p : Bool} → xs ≡ x ∷ xs' → ps ≡ q ∷ ps' → test ≡ subtraction_in_range f (v x) l (v q)
      → RowTestsTo passed xs ps p → RowTestsTo (passed && test) xs' ps' p
  unfolding subtract_row_in_range
  row_tests_next passed test {xs' = xs'} {ps' = ps'} c d e t =
      let left = subtract_row_in_range f l (map v ps') (map v xs') in
      and_assoc passed test left
      ∙ ap (λ b. passed && (b && left)) e
      ∙ sym (ap₂ (λ zs ws. passed && subtract_row_in_range f l (map v ws) (map v zs)) c d)
      ∙ t

  pub row_tests_end : (passed : Bool) {xs ps : List X} {p : Bool} → (xs ≡ []) ⊎ (ps ≡ []) → RowTestsTo passed xs ps p → passed ≡ p
  unfolding subtract_row_in_range
  row_tests_end passed {xs = xs} (inr e) t = sym (and-true passed) ∙ sym (ap (λ zs. passed && subtract_row_in_range f l (map v zs) (map v xs)) e) ∙ t
  row_tests_end passed {ps = []} (inl e) t = sym (and-true passed) ∙ t
  row_tests_end passed {ps = q ∷ ps} (inl e) t = sym (and-true passed) ∙ sym (ap (λ zs. passed && subtract_row_in_range f l (map v (q ∷ ps)) (map v zs)) e) ∙ t

-- ---- the tests of the rows
module _ {X : Type 0} (v : X → Float) (f : Format) (k : ℕ) (ps : Row) where
  -- the tests of the rows that are left come to p
  abbrev pub RowsTestTo : List (List X) → Bool → Type 0
  RowsTestTo rows p = eliminate_rows_in_range f k ps (map (map v) rows) ≡ p

  module _ {rows rest : List (List X)} {r : List X} {p : Bool} (steps : rows ≡ r ∷ rest) (t : RowsTestTo rows p) where
    abbrev left : Bool → Bool
    left test = test && eliminate_rows_in_range f k ps (map (map v) rest)

    opened : left (eliminate_row_in_range f k ps (map v r)) ≡ p
    unfolding eliminate_rows_in_range
    opened = sym (ap (λ rs. eliminate_rows_in_range f k ps (map (map v) rs)) steps) ∙ t

    pub rows_test_next : eliminate_row_in_range f k ps (map v r) ≡ true → RowsTestTo rest p
    rows_test_next e = sym (ap left e) ∙ opened

    pub rows_test_fail : eliminate_row_in_range f k ps (map v r) ≡ false → p ≡ false
    rows_test_fail e = sym opened ∙ ap left e

  pub rows_test_end : {rows : List (List X)} {p : Bool} → rows ≡ [] → RowsTestTo rows p → p ≡ true
  unfolding eliminate_rows_in_range
  rows_test_end none t = sym t ∙ ap (λ rs. eliminate_rows_in_range f k ps (map (map v) rs)) none

-- ---- one row, from which l times the pivot's row ps is subtracted
module _ (f : Format) (l : Float) (ps : Row) where
  -- with the entries of the row rs before column j done, the rest comes to the row s
  abbrev pub RowBecomes : ℕ → Row → Row → Type 0
  RowBecomes j rs s = take j rs ++ subtract_row f l (drop j ps) (drop j rs) ≡ s

  module _ (j : ℕ) (rs : Row) (hr : j < length rs) (x : Float) where
    -- the entries past j do not see a write of entry j
    pub past_written : take (j + 1) (set rs j x) ++ subtract_row f l (drop (j + 1) ps) (drop (j + 1) (set rs j x)) ≡ take j rs ++ x ∷ subtract_row f l (drop (j + 1) ps) (drop (j + 1) rs)
    past_written =
        let one : j < j + 1 = omega arith in
        ap₂ (λ a b. a ++ subtract_row f l (drop (j + 1) ps) b) (take_more_set rs j x hr) (drop-set-lt (j + 1) rs j x one)
        ∙ append_assoc (take j rs) (x ∷ []) (subtract_row f l (drop (j + 1) ps) (drop (j + 1) rs))

    pub row_next : (s : Row) → j < length ps → x ≡ subtract_product f (at rs j) l (at ps j) → RowBecomes j rs s → RowBecomes (j + 1) (set rs j x) s
    unfolding subtract_row
    row_next s hp e t =
        past_written
        ∙ ap (λ z. take j rs ++ z ∷ subtract_row f l (drop (j + 1) ps) (drop (j + 1) rs)) e
        ∙ sym (ap₂ (λ a b. take j rs ++ subtract_row f l a b) (drop_more ps j zero_float hp) (drop_more rs j zero_float hr))
        ∙ t

  pub row_ends : (j : ℕ) (rs s : Row) → length rs ≤ j → length ps ≤ j → RowBecomes j rs s → rs ≡ s
  unfolding subtract_row
  row_ends j rs s h hp t = sym (ap₂ (λ a b. a ++ subtract_row f l b (drop j rs)) (take_all j rs h) (drop_all j ps hp) ∙ append-nil rs) ∙ t

pub row_starts : (f : Format) (k : ℕ) (ps rs : Row) (l : Float) → k < length rs → l ≡ multiplier f k ps rs → RowBecomes f l ps (k + 1) (set rs k l) (eliminate_row f k ps rs)
row_starts f k ps rs l h e = past_written f l ps k rs h l ∙ ap (λ x. take k rs ++ x ∷ subtract_row f x (drop (k + 1) ps) (drop (k + 1) rs)) e

-- ---- the rows
module _ (f : Format) (k : ℕ) where
  -- with the rows before r done, the rest comes to the matrix s
  abbrev pub RowsBecome : ℕ → Matrix → Matrix → Type 0
  RowsBecome r m s = take r m ++ eliminate_rows f k (row m k) (drop r m) ≡ s

  pub rows_next : (r : ℕ) (m m' s : Matrix) → k < r → r < length m → m' ≡ set m r (eliminate_row f k (row m k) (row m r)) → RowsBecome r m s → RowsBecome (r + 1) m' s
  unfolding eliminate_rows
  rows_next r m m' s hk hr w t =
      let p = row m k in
      let x = eliminate_row f k p (row m r) in
      let one : r < r + 1 = omega arith in
      let ne : k ≡ r → ⊥ = λ e. omega arith in
      ap (λ z. take (r + 1) z ++ eliminate_rows f k (row z k) (drop (r + 1) z)) w
      ∙ ap (λ z. take (r + 1) (set m r x) ++ eliminate_rows f k z (drop (r + 1) (set m r x))) (get_or-set_other m r k x [] ne)
      ∙ ap₂ (λ a b. a ++ eliminate_rows f k p b) (take_more_set m r x hr) (drop-set-lt (r + 1) m r x one)
      ∙ append_assoc (take r m) (x ∷ []) (eliminate_rows f k p (drop (r + 1) m))
      ∙ sym (ap (λ z. take r m ++ eliminate_rows f k p z) (drop_more m r [] hr))
      ∙ t

  pub rows_end : (r : ℕ) (m s : Matrix) → length m ≤ r → RowsBecome r m s → m ≡ s
  unfolding eliminate_rows
  rows_end r m s h t = sym (ap₂ (λ a b. a ++ eliminate_rows f k (row m k) b) (take_all r m h) (drop_all r m h) ∙ append-nil m) ∙ t

pub ruleset rows_tested = (rows_test_next, row-taken, length-matrix)

pub ruleset row_tested = (row_tests_start, read)

pub ruleset row_eliminated = (row_starts, row_next, read, read-at, map-set, length-map, length-set)
