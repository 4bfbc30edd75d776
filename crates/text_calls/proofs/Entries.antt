-- The matrix and the right side of a system, as a loop over its rows takes them: what is taken, and the rows that are left.
use Rattle.std.proofs.Common.{◌≡◌, ℕ, zero, suc, ◌+◌, ◌*◌, ◌<◌, ◌≤◌, List, [], ◌∷◌, ◌++◌, map, length, get_or, take, drop, refl, sym, ap, ◌∙◌, arith}
use lib.Ieee.{Float}
use Rattle.std.proofs.lemmas.List.{length-append, length-map, length-take-le, length-drop, get_or_append_left, get_or-map, take-append-le, take-map, drop-map, map-append, map_push, append-nil, append_assoc}
use Rattle.element.specs.Matrix.{Row, at, zero_float}
use Rattle.text_model.specs.Systems.{coefficients, right_side}

after : {X : Type 0} (k : ℕ) (row next : List X) → length row ≡ k → drop k (row ++ next) ≡ next
after zero [] next h = refl
after zero (x ∷ xs) next h = absurd (omega arith)
after (suc k) [] next h = absurd (omega arith)
after (suc k) (x ∷ xs) next h = after k xs next (omega arith)

module _ {X : Type 0} (v : X → Float) (part : ℕ → ℕ → Row → Row) (n : ℕ) (es : List X) where
  -- with `done` taken from the rows before those in `rest`, the part of these comes to that of all
  pub record PartTo (done rest : List X) : Type 0 where
    pub rows : ℕ
    pub count : length rest ≡ rows * (n + 1)
    pub whole : map v done ++ part rows n (map v rest) ≡ part n n (map v es)

  pub part_begun : (done rest : List X) → length es ≡ n * (n + 1) → done ≡ [] → rest ≡ es → PartTo done rest
  part_begun done rest h d e = record { rows = n; count = ap length e ∙ h; whole = ap (λ xs. map v xs ++ part n n (map v rest)) d ∙ ap (λ xs. part n n (map v xs)) e }

  -- no row is left
  pub part_end : (done rest : List X) → length rest < n + 1 → ((xs : Row) → part 0 n xs ≡ []) → PartTo done rest → map v done ≡ part n n (map v es)
  part_end done rest l none t = go t.rows t.count t.whole
    where
      go : (r : ℕ) → length rest ≡ r * (n + 1) → map v done ++ part r n (map v rest) ≡ part n n (map v es) → map v done ≡ part n n (map v es)
      go zero c w = sym (append-nil (map v done)) ∙ sym (ap (λ zs. map v done ++ zs) (none (map v rest))) ∙ w
      go (suc r) c w = absurd (omega arith)

  -- a row is taken, of which `one` is the part; the others are left
  pub part_next : (done more rest next row : List X) (one : Row) → rest ≡ row ++ next → length row ≡ n + 1 → map v more ≡ map v done ++ one
      → ((r : ℕ) → part (suc r) n (map v rest) ≡ one ++ part r n (drop (n + 1) (map v rest))) → PartTo done rest → PartTo more next
  part_next done more rest next row one e l m step t = go t.rows t.count t.whole
    where
      left : drop (n + 1) (map v rest) ≡ map v next
      left = drop-map v (n + 1) rest ∙ ap (map v) (ap (drop (n + 1)) e ∙ after (n + 1) row next l)

      go : (r : ℕ) → length rest ≡ r * (n + 1) → map v done ++ part r n (map v rest) ≡ part n n (map v es) → PartTo more next
      go zero c w = absurd (omega (arith, ap length e, length-append row next))
      go (suc r) c w = record {
        rows = r;
        count = omega (arith, ap length e, length-append row next);
        whole = ap (λ zs. zs ++ part r n (map v next)) m ∙ append_assoc (map v done) one (part r n (map v next))
            ∙ ap (λ zs. map v done ++ zs) (ap (λ zs. one ++ part r n zs) (sym left) ∙ sym (step r)) ∙ w;
      }

module _ {X : Type 0} (v : X → Float) (n : ℕ) (es done more rest next row : List X) (e : rest ≡ row ++ next) (l : length row ≡ n + 1) where
  pub matrix-next : (xs : List X) → xs ≡ take n row → more ≡ done ++ xs → PartTo v coefficients n es done rest → PartTo v coefficients n es more next
  unfolding coefficients
  matrix-next xs is p =
      let within : n ≤ length row = omega arith in
      let same : take n (map v rest) ≡ map v xs = take-map v n rest ∙ ap (map v) (ap (take n) e ∙ take-append-le n row next within ∙ sym is) in
      part_next v coefficients n es done more rest next row (map v xs) e l (ap (map v) p ∙ map-append v done xs) (λ r. ap (λ zs. zs ++ coefficients r n (drop (n + 1) (map v rest))) same)

  pub right_side_next : (x : X) → x ≡ get_or row n x → more ≡ done ++ x ∷ [] → PartTo v right_side n es done rest → PartTo v right_side n es more next
  unfolding right_side
  right_side_next x is p =
      let here : n < length row = omega arith in
      let within : n < length rest = omega (arith, ap length e, length-append row next) in
      let same : at (map v rest) n ≡ v x = get_or-map v rest n x zero_float within ∙ ap v (ap (λ xs. get_or xs n x) e ∙ get_or_append_left row next x n here ∙ sym is) in
      part_next v right_side n es done more rest next row (v x ∷ []) e l (ap (map v) p ∙ map_push v done x) (λ r. ap (λ y. y ∷ right_side r n (drop (n + 1) (map v rest))) same)

-- ---- how many there are
coefficients-count : (r n : ℕ) (xs : Row) → length xs ≡ r * (n + 1) → length (coefficients r n xs) ≡ r * n
unfolding coefficients
coefficients-count zero n xs h = let none : 0 * n ≡ 0 = omega arith in sym none
coefficients-count (suc r) n xs h =
    let within : n ≤ length xs = omega arith in
    let left : length (drop (n + 1) xs) ≡ r * (n + 1) = omega (arith, length-drop (n + 1) xs) in
    omega (arith, length-append (take n xs) (coefficients r n (drop (n + 1) xs)), length-take-le n xs within, coefficients-count r n (drop (n + 1) xs) left)

right_side_count : (r n : ℕ) (xs : Row) → length (right_side r n xs) ≡ r
unfolding right_side
right_side_count zero n xs = refl
right_side_count (suc r) n xs = ap suc (right_side_count r n (drop (n + 1) xs))

module _ {X : Type 0} (v : X → Float) (n : ℕ) (es done rest : List X) (l : length rest < n + 1) where
  pub matrix_end : length es ≡ n * (n + 1) → PartTo v coefficients n es done rest → (map v done ≡ coefficients n n (map v es)) × (length done ≡ n * n)
  unfolding coefficients
  matrix_end h t =
      let all = part_end v coefficients n es done rest l (λ xs. refl) t in
      (all, sym (length-map done v) ∙ ap length all ∙ coefficients-count n n (map v es) (length-map es v ∙ h))

  pub right_side_end : PartTo v right_side n es done rest → (map v done ≡ right_side n n (map v es)) × (length done ≡ n)
  unfolding right_side
  right_side_end t =
      let all = part_end v right_side n es done rest l (λ xs. refl) t in
      (all, sym (length-map done v) ∙ ap length all ∙ right_side_count n n (map v es))
