-- A matrix that lies row by row in one list: its rows and their entries, and what becomes of it when whole rows are written.
use Rattle.std.proofs.Common.{◌≡◌, ℕ, zero, suc, ◌+◌, ◌-◌, ◌*◌, ◌<◌, ◌≤◌, List, [], ◌∷◌, ◌++◌, map, length, get_or, take, drop, set, sym, refl, ap, ◌∙◌, ap₂, min, max, inl, inr, mul-le-mul_right, arith}
use lib.Ieee.{Float}
use Rattle.std.proofs.lemmas.List.{length-map, length-set, length-append, length-drop, get_or_default, map-append, length-take-le, get_or-map, get_or_at, get_or_append_left, set_at, set_comm, set-append_left, take-append-drop, take-append-le, drop-append-le, take_at, drop_at, drop-map, take_rest, nil_from_length}
use Rattle.std.specs.List.{swap}
use Rattle.element.specs.Matrix.{Row, Matrix, zero_float, at, row, rows_of}
use Rattle.model.specs.Factor.{swapped}
use Rattle.std.proofs.lemmas.Bool.{cases_lt}
use Rattle.element.proofs.Rows.{row-values}
use Rattle.element.proofs.Entries.{row-rows_of, length-rows_of, row-length}
use Rattle.factor.specs.Slices.{matrix_of}

-- an element of a slice, d being anything
pub read-at : {X : Type 0} (v : X → Float) (xs : List X) (i : ℕ) (d : X) → i < length xs → v (get_or xs i d) ≡ at (map v xs) i
read-at v xs i d h = sym (get_or-map v xs i d zero_float h)

-- an element that was read
pub read : {X : Type 0} (v : X → Float) (xs : List X) (i : ℕ) (x : X) → i < length xs → x ≡ get_or xs i x → v x ≡ at (map v xs) i
read v xs i x h is = ap v is ∙ read-at v xs i x h

-- ---- the exchange of two places
pub swap-is : (xs : List ℕ) (i j : ℕ) → i < length xs → j < length xs → swap xs i j ≡ swapped 0 i j xs
swap-is [] i j h k = absurd (omega arith)
swap-is (x ∷ xs) i j h k = ap₂ (λ a b. set (set (x ∷ xs) i a) j b) (get_or_default (x ∷ xs) j x 0 k) (get_or_default (x ∷ xs) i x 0 h)

pub ruleset exchanged = swap-is

-- in either order
pub swapped-sorted : {A : Type 0} (d : A) (i j : ℕ) (xs : List A) → swapped d (min i j) (max i j) xs ≡ swapped d i j xs
swapped-sorted d i j xs = elim (cases_lt j i) [
  | inl after ↦ (
      let first : min i j ≡ j = omega arith in
      let second : max i j ≡ i = omega arith in
      let ne : j ≡ i → ⊥ = λ e. omega arith in
      ap₂ (λ a b. swapped d a b xs) first second ∙ set_comm xs j i (get_or xs i d) (get_or xs j d) ne)
  | inr before ↦ (
      let first : min i j ≡ i = omega arith in
      let second : max i j ≡ j = omega arith in
      ap₂ (λ a b. swapped d a b xs) first second)
]

-- of the element x, which stands at j after the list xs, and of that at i in it, which is y
swapped-parts : {A : Type 0} (d : A) (i j : ℕ) (xs zs : List A) (x y : A) → i < j → length xs ≡ j → get_or xs i d ≡ y → swapped d i j (xs ++ x ∷ zs) ≡ set xs i x ++ y ∷ zs
swapped-parts d i j xs zs x y h e is =
    let within : i < length xs = omega arith in
    ap₂ (λ a b. set (set (xs ++ x ∷ zs) i a) j b) (get_or_at xs x zs d j e) (get_or_append_left xs (x ∷ zs) d i within ∙ is)
    ∙ ap (λ ys. set ys j y) (set-append_left xs (x ∷ zs) i x within)
    ∙ set_at (set xs i x) x zs y j (length-set xs i x ∙ e)

-- ---- a square matrix of size n, as a slice xs of elements holds it
module _ {X : Type 0} (v : X → Float) (n : ℕ) (xs : List X) where
  pub length-matrix : length (matrix_of v n xs) ≡ n
  length-matrix = length-rows_of n n (map v xs)

  module _ (i : ℕ) (hi : i < n) where
    pub length-row : length xs ≡ n * n → length (row (matrix_of v n xs) i) ≡ n
    length-row e = row-length n (map v xs) i hi (length-map xs v ∙ e)

    -- a row that was taken
    pub row-taken : (ys : List X) → ys ≡ take n (drop (i * n) xs) → map v ys ≡ row (matrix_of v n xs) i
    row-taken ys e = row-values v n i xs ys e ∙ sym (row-rows_of n n (map v xs) i hi)

    -- an element of it that was read
    pub entry-taken : (ys : List X) → ys ≡ take n (drop (i * n) xs) → (j : ℕ) (x : X) → j < length ys → x ≡ get_or ys j x → v x ≡ at (row (matrix_of v n xs) i) j
    entry-taken ys e j x h is = read v ys j x h is ∙ ap (λ r. at r j) (row-taken ys e)

    -- its entries from j on
    pub tail-taken : (ys : List X) → ys ≡ take n (drop (i * n) xs) → (j : ℕ) → map v (take (length ys - j) (drop j ys)) ≡ drop j (row (matrix_of v n xs) i)
    tail-taken ys e j = ap (map v) (take_rest ys j) ∙ sym (drop-map v j ys) ∙ ap (drop j) (row-taken ys e)

-- what is known of a row that was taken
pub ruleset taken = (length-matrix, row-taken, entry-taken, tail-taken)

-- ---- rows of n entries out of two lists, one after the other
rows_of-append : (p q n r : ℕ) (xs ys : Row) → r ≡ p + q → length xs ≡ p * n → rows_of r n (xs ++ ys) ≡ rows_of p n xs ++ rows_of q n ys
unfolding rows_of
rows_of-append zero q n r xs ys e h =
    let none : xs ≡ [] = nil_from_length xs (omega arith) in
    let all : r ≡ q = omega arith in
    ap₂ (λ k zs. rows_of k n (zs ++ ys)) all none
rows_of-append (suc p) q n r xs ys e h =
    let first : n ≤ length xs = omega arith in
    let left : length (drop n xs) ≡ p * n = omega (arith, length-drop n xs) in
    let more : r ≡ suc (p + q) = omega arith in
    ap (λ k. rows_of k n (xs ++ ys)) more
    ∙ ap₂ ◌∷◌ (take-append-le n xs ys first) (ap (rows_of (p + q) n) (drop-append-le n xs ys first) ∙ rows_of-append p q n (p + q) (drop n xs) ys refl left)

rows_of-first : (q n : ℕ) (ys zs : Row) → length ys ≡ n → rows_of (suc q) n (ys ++ zs) ≡ ys ∷ rows_of q n zs
unfolding rows_of
rows_of-first q n ys zs e = ap₂ (λ a b. a ∷ rows_of q n b) (take_at ys zs n e) (drop_at ys zs n e)

-- ---- r rows, of which those before row i lie in one list and the others in another
module _ {X : Type 0} (v : X → Float) (n : ℕ) where
  abbrev pub rows : ℕ → List X → Matrix
  rows r xs = rows_of r n (map v xs)

  module _ (r i : ℕ) (hi : i < r) (above from : List X) (long : length above ≡ i * n) where
    abbrev after : ℕ
    after = r - (i + 1)

    -- with other rows above, and ys in the place of row i
    joined : (over ys : List X) → length over ≡ i * n → length ys ≡ n → rows r (over ++ (ys ++ drop n from)) ≡ rows i over ++ map v ys ∷ rows after (drop n from)
    joined over ys h e =
        let whole : r ≡ i + suc after = omega arith in
        ap (rows_of r n) (map-append v over (ys ++ drop n from))
        ∙ rows_of-append i (suc after) n r (map v over) (map v (ys ++ drop n from)) whole (length-map over v ∙ h)
        ∙ ap (λ zs. rows i over ++ rows_of (suc after) n zs) (map-append v ys (drop n from))
        ∙ ap (λ rs. rows i over ++ rs) (rows_of-first after n (map v ys) (map v (drop n from)) (length-map ys v ∙ e))

    module _ (wide : n ≤ length from) where
      apart : rows r (above ++ from) ≡ rows i above ++ map v (take n from) ∷ rows after (drop n from)
      apart = ap (λ zs. rows r (above ++ zs)) (sym (take-append-drop n from)) ∙ joined above (take n from) long (length-take-le n from wide)

      height : length (rows i above) ≡ i
      height = length-rows_of i n (map v above)

      pub row-here : row (rows r (above ++ from)) i ≡ map v (take n from)
      row-here = ap (λ m. row m i) apart ∙ get_or_at (rows i above) (map v (take n from)) (rows after (drop n from)) [] i height

      pub row-above : (k : ℕ) → k < i → row (rows r (above ++ from)) k ≡ map v (take n (drop (k * n) above))
      row-above k hk =
          let within : k < length (rows i above) = omega (arith, height) in
          ap (λ m. row m k) apart
          ∙ get_or_append_left (rows i above) (map v (take n from) ∷ rows after (drop n from)) [] k within
          ∙ row-rows_of i n (map v above) k hk
          ∙ sym (row-values v n k above (take n (drop (k * n) above)) refl)

      pub row-written : (ys : List X) → length ys ≡ n → rows r (above ++ (ys ++ drop n from)) ≡ set (rows r (above ++ from)) i (map v ys)
      row-written ys e =
          joined above ys long e
          ∙ sym (ap (λ m. set m i (map v ys)) apart ∙ set_at (rows i above) (map v (take n from)) (rows after (drop n from)) (map v ys) i height)

-- row k of those before row i written with row i, and row i with row k
pub rows-exchanged : {X : Type 0} (v : X → Float) (n r i k w : ℕ) (above from us os : List X) → i < r → length above ≡ i * n → n ≤ length from → k < i → w ≡ n
    → us ≡ take n from → os ≡ take w (drop (k * n) above)
    → rows v n r ((take (k * n) above ++ (us ++ drop w (drop (k * n) above))) ++ (os ++ drop n from)) ≡ swapped [] k i (rows v n r (above ++ from))
rows-exchanged v n r i k w above from us os hi long wide hk same here there =
    let before = take (k * n) above in
    let past = drop (k * n) above in
    let next : k * n + n ≤ i * n = omega (arith, mul-le-mul_right n hk) in
    let short : length before ≡ k * n = length-take-le (k * n) above (omega arith) in
    let rest : n ≤ length past = omega (arith, length-drop (k * n) above) in
    let us-long : length us ≡ n = ap length here ∙ length-take-le n from wide in
    let os-long : length os ≡ n = ap length there ∙ ap (λ z. length (take z past)) same ∙ length-take-le n past rest in
    let over-long : length (before ++ (us ++ drop n past)) ≡ i * n =
    length-append before (us ++ drop n past) ∙ omega (arith, length-append us (drop n past), length-drop n past, length-drop (k * n) above) in
    let whole : before ++ past ≡ above = take-append-drop (k * n) above in
    let written : rows v n i (before ++ (us ++ drop n past)) ≡ set (rows v n i above) k (map v us) =
    row-written v n i k hk before past short rest us us-long ∙ ap (λ zs. set (rows v n i zs) k (map v us)) whole in
    let first : row (rows v n i above) k ≡ map v os =
    row-rows_of i n (map v above) k hk ∙ sym (row-values v n k above os (there ∙ ap (λ z. take z past) same)) in
    let C = rows v n (after v n r i hi above from long) (drop n from) in
    ap (λ z. rows v n r ((before ++ (us ++ drop z past)) ++ (os ++ drop n from))) same
    ∙ joined v n r i hi above from long (before ++ (us ++ drop n past)) os over-long os-long
    ∙ ap (λ rs. rs ++ map v os ∷ C) (written ∙ ap (λ ys. set (rows v n i above) k (map v ys)) here)
    ∙ sym
    (ap (swapped [] k i) (apart v n r i hi above from long wide)
    ∙ swapped-parts [] k i (rows v n i above) C (map v (take n from)) (map v os) hk (length-rows_of i n (map v above)) first)
