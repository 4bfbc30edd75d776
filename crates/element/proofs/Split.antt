-- The rows of a matrix as lists: the first and the others, those from one on, and their values. v is what an element is as a float.
use Rattle.std.proofs.Common.{◌≡◌, ℕ, zero, suc, ◌+◌, ◌-◌, ◌*◌, ◌<◌, ◌≤◌, List, [], ◌∷◌, map, take, drop, sym, refl, ap, ap₂, ◌∙◌, le_of_suc-le-suc, not-suc-le-zero, zero-mul, mul_comm, length, subst, arith}
use lib.Ieee.{Float}
use Rattle.std.proofs.Math.Nat.{mul-sub}
use Rattle.std.specs.List.{All}
use Rattle.std.proofs.lemmas.List.{drop-drop, take-map, drop-map, length-take-le, length-drop}
use Rattle.std.proofs.lemmas.List.Elements.{All-nil, All-cons, All-head, All-tail}
use Rattle.element.specs.Matrix.{rows_of}
use Rattle.element.specs.Rows.{split_rows}

pub no-rows : {X : Type 0} (count n : ℕ) (xs : List X) → count ≡ 0 → split_rows count n xs ≡ []
unfolding split_rows
no-rows count n xs e = ap (λ k. split_rows k n xs) e

pub first-row : {X : Type 0} (count n : ℕ) (xs : List X) → 0 < count → split_rows count n xs ≡ take n xs ∷ split_rows (count - 1) n (drop n xs)
unfolding split_rows
first-row zero n xs h = absurd (not-suc-le-zero h)
first-row (suc count) n xs h = ap (λ k. take n xs ∷ split_rows k n (drop n xs)) (omega arith)

pub rows-after : {X : Type 0} (count n i : ℕ) (xs : List X) → i ≤ count → split_rows (count - i) n (drop (i * n) xs) ≡ drop i (split_rows count n xs)
unfolding split_rows
rows-after count n zero xs h = ap₂ (λ k j. split_rows k n (drop j xs)) (omega arith) (zero-mul n)
rows-after zero n (suc i) xs h = absurd (not-suc-le-zero h)
rows-after (suc count) n (suc i) xs h =
    let along : n + i * n ≡ suc i * n = omega arith in
    let fewer : suc count - suc i ≡ count - i = omega arith in
    ap₂ (λ k j. split_rows k n (drop j xs)) fewer (sym along)
    ∙ sym (ap (split_rows (count - i) n) (drop-drop (i * n) n xs))
    ∙ rows-after count n i (drop n xs) (le_of_suc-le-suc h)

pub row-lists : {X : Type 0} (v : X → Float) (r n : ℕ) (xs : List X) → map (map v) (split_rows r n xs) ≡ rows_of r n (map v xs)
unfolding split_rows rows_of
row-lists v zero n xs = refl
row-lists v (suc r) n xs =
    ap₂ ◌∷◌ (sym (take-map v n xs)) (row-lists v r n (drop n xs) ∙ ap (rows_of r n) (sym (drop-map v n xs)))

-- how many entries the rows below row k have
pub entries-below : (n k len : ℕ) → len ≡ n * n - (k + 1) * n → len ≡ (n - k - 1) * n
entries-below n k len e =
    let fewer : n - (k + 1) ≡ n - k - 1 = omega arith in
    e ∙ ap (λ m. n * n - m) (mul_comm (k + 1) n) ∙ sym (mul-sub n n (k + 1)) ∙ mul_comm n (n - (k + 1)) ∙ ap (λ m. m * n) fewer

pub row-lengths : {X : Type 0} (r n : ℕ) (xs : List X) → length xs ≡ r * n → All (λ row. length row ≡ n) (split_rows r n xs)
unfolding split_rows
row-lengths zero n xs e = All-nil (λ row. length row ≡ n)
row-lengths (suc r) n xs e =
    let first : length (take n xs) ≡ n = length-take-le n xs (omega arith) in
    let rest : length (drop n xs) ≡ r * n = length-drop n xs ∙ omega arith in
    All-cons (λ row. length row ≡ n) (take n xs) (split_rows r n (drop n xs)) first (row-lengths r n (drop n xs) rest)

-- the rows from row i on, as floats
pub rows-from-values : {X : Type 0} (v : X → Float) (r n i : ℕ) (xs : List X) → map (map v) (drop i (split_rows r n xs)) ≡ drop i (rows_of r n (map v xs))
rows-from-values v r n i xs = sym (drop-map (map v) i (split_rows r n xs)) ∙ ap (drop i) (row-lists v r n xs)

-- the next of the rows that are left, and those after it, where each has n entries
pub next-row : {X : Type 0} (n : ℕ) {rows rest : List (List X)} {row : List X} → rows ≡ row ∷ rest → All (λ r. length r ≡ n) rows → (length row ≡ n) × All (λ r. length r ≡ n) rest
next-row {X} n {rest = rest} {row = row} steps long =
    let long-row = λ (r : List X). length r ≡ n in
    let all = subst (All long-row) steps long in
    (All-head long-row row rest all, All-tail long-row row rest all)
