-- The rows of a matrix that lies in one slice, as a loop over them takes them: the rows from i on, the next one, and the end.
use Rattle.std.proofs.Common.{◌≡◌, ℕ, suc, ◌+◌, ◌-◌, ◌*◌, ◌<◌, ◌≤◌, Bool, true, false, ◌&&◌, T, List, [], ◌∷◌, ◌++◌, map, length, take, drop, set, sym, refl, ap, ◌∙◌, ap₂, mul-le-mul_right, arith}
use lib.Ieee.{Float, Format, fits}
use lib.Ieee.Fits.{and_i}
use lib.Ieee.Scale.{finite}
use Rattle.std.specs.List.{All, list_all}
use Rattle.std.proofs.lemmas.List.{drop-drop, take-map, drop-map, take_more_set, map_push, append-nil, append_assoc}
use Rattle.std.proofs.lemmas.List.Elements.{All-head, All-tail}
use Rattle.element.specs.Matrix.{Row, Matrix, rows_of, all_finite}
use Rattle.element.specs.Products.{sum_products, sum_in_range, sum_rows, rows_in_range}
use Rattle.element.specs.Promises.{all_fit}

-- ---- entries that are finite, or values of a format
module _ {X : Type 0} (v : X → Float) where
  pub finite-all : (xs : List X) → list_all (λ x. finite (v x)) xs ≡ all_finite (map v xs)
  unfolding all_finite
  finite-all [] = refl
  finite-all (x ∷ xs) = ap (λ b. finite (v x) && b) (finite-all xs)

  pub fit-all : (f : Format) (xs : List X) → All (λ x. T (fits f (v x))) xs → T (all_fit f (map v xs))
  unfolding all_fit
  fit-all f [] each = tt
  fit-all f (x ∷ xs) each = and_i (fits f (v x)) (all_fit f (map v xs)) (All-head (λ y. T (fits f (v y))) x xs each) (fit-all f xs (All-tail (λ y. T (fits f (v y))) x xs each))

-- ---- rows that are left
-- the tests of the rows that are left come to p
module _ {X : Type 0} (v : X → Float) (f : Format) (x : Row) where
  abbrev pub RangeTo : List (List X) → Bool → Type 0
  RangeTo rows p = rows_in_range f (map (map v) rows) x ≡ p

  module _ {rows rest : List (List X)} {row : List X} {p : Bool} (steps : rows ≡ row ∷ rest) (t : RangeTo rows p) where
    opened : (sum_in_range f (map v row) x && rows_in_range f (map (map v) rest) x) ≡ p
    unfolding rows_in_range
    opened = sym (ap (λ rs. rows_in_range f (map (map v) rs) x) steps) ∙ t

    pub range-next : sum_in_range f (map v row) x ≡ true → RangeTo rest p
    range-next e = sym (ap (λ b. b && rows_in_range f (map (map v) rest) x) e) ∙ opened

    pub range_fail : sum_in_range f (map v row) x ≡ false → p ≡ false
    range_fail e = sym opened ∙ ap (λ b. b && rows_in_range f (map (map v) rest) x) e

  pub range_end : {rows : List (List X)} {p : Bool} → rows ≡ [] → RangeTo rows p → p ≡ true
  unfolding rows_in_range
  range_end none t = sym t ∙ ap (λ rs. rows_in_range f (map (map v) rs) x) none

-- ---- rows
-- the rows from i on, of a square matrix of size n
abbrev pub rows_from : ℕ → ℕ → Row → Matrix
rows_from n i xs = rows_of (n - i) n (drop (i * n) xs)

pub rows_next : (n i : ℕ) (xs : Row) → i < n → rows_from n i xs ≡ take n (drop (i * n) xs) ∷ rows_from n (i + 1) xs
unfolding rows_of
rows_next n i xs h =
    let one : n - i ≡ suc (n - (i + 1)) = omega arith in
    let along : i * n + n ≡ (i + 1) * n = omega arith in
    ap (λ k. rows_of k n (drop (i * n) xs)) one
    ∙ ap (λ zs. take n (drop (i * n) xs) ∷ rows_of (n - (i + 1)) n zs) (drop-drop n (i * n) xs ∙ ap (λ k. drop k xs) along)

pub rows_end : (n i : ℕ) (xs : Row) → n ≤ i → rows_from n i xs ≡ []
unfolding rows_of
rows_end n i xs h = let none : n - i ≡ 0 = omega arith in ap (λ k. rows_of k n (drop (i * n) xs)) none

pub rows_all : (n : ℕ) (xs : Row) → rows_from n 0 xs ≡ rows_of n n xs
rows_all n xs =
    let whole : n - 0 ≡ n = omega arith in
    let start : 0 * n ≡ 0 = omega arith in
    ap₂ (λ k j. rows_of k n (drop j xs)) whole start

-- where row i ends
pub row_within : (n i : ℕ) → i < n → i * n + n ≤ n * n
row_within n i h = omega (arith, mul-le-mul_right n h)

-- row i of what the slice stands for
pub row-values : {X : Type 0} (v : X → Float) (n i : ℕ) (xs r : List X) → r ≡ take n (drop (i * n) xs) → map v r ≡ take n (drop (i * n) (map v xs))
row-values v n i xs r e = ap (map v) e ∙ sym (ap (take n) (drop-map v (i * n) xs) ∙ take-map v n (drop (i * n) xs))

module _ (f : Format) (n : ℕ) (a x : Row) where
  -- with `done` written, what is left comes to r
  abbrev pub SumsTo : Row → ℕ → Row → Type 0
  SumsTo done i r = done ++ sum_rows f (rows_from n i a) x ≡ r

  pub sums_end : (done : Row) (i : ℕ) (r : Row) → n ≤ i → SumsTo done i r → done ≡ r
  unfolding sum_rows
  sums_end done i r h t = sym (append-nil done) ∙ sym (ap (λ rs. done ++ sum_rows f rs x) (rows_end n i a h)) ∙ t

  pub sums_next : (done : Row) (i : ℕ) (r : Row) → i < n → SumsTo done i r → SumsTo (done ++ sum_products f (take n (drop (i * n) a)) x ∷ []) (i + 1) r
  unfolding sum_rows
  sums_next done i r h t =
      append_assoc done (sum_products f (take n (drop (i * n) a)) x ∷ []) (sum_rows f (rows_from n (i + 1) a) x)
      ∙ sym (ap (λ rs. done ++ sum_rows f rs x) (rows_next n i a h))
      ∙ t

-- y after its entry i is written
pub written : {X : Type 0} (v : X → Float) (y : List X) (i : ℕ) (s : X) → i < length y → map v (take (i + 1) (set y i s)) ≡ map v (take i y) ++ v s ∷ []
written v y i s h = ap (map v) (take_more_set y i s h) ∙ map_push v (take i y) s
