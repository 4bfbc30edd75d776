-- The backward solve as its loop takes it, from the last row to the first: the entries from place i on, and the one before them.
use Rattle.std.proofs.Common.{◌≡◌, ℕ, zero, suc, ◌+◌, ◌*◌, ◌<◌, ◌≤◌, Bool, true, false, ◌&&◌, List, [], ◌∷◌, map, length, get_or, take, drop, set, sym, refl, ap, ◌∙◌, subst, ap₂, add-one, arith}
use lib.Ieee.{Float, Format, div}
use Rattle.std.proofs.lemmas.List.{length-map, length-set, get_or-map, get_or-take, take-take, take-set, drop_all, drop_more, drop-set, drop-map}
use Rattle.std.proofs.lemmas.Bool.{and_from, and_left, and_right}
use Rattle.exact.specs.Range.{quotient_in_range}
use Rattle.element.specs.Matrix.{Row, at, matrix, zero_float}
use Rattle.element.specs.Products.{subtract_products, subtractions_in_range}
use Rattle.element.proofs.Rows.{rows_from, rows_next, rows_end, rows_all, row-values}
use Rattle.model.specs.Solve.{backward, backward_in_range}
use Rattle.triangular.proofs.Flat.{entry_value, from, from-is}

module _ (f : Format) (n : ℕ) (a ys : Row) where
  -- the entries from place i on, and whether all on the way to them is in range
  abbrev pub backward_from : ℕ → Row
  backward_from i = backward f i (rows_from n i a) (drop i ys)

  abbrev pub backward_tests : ℕ → Bool
  backward_tests i = backward_in_range f i (rows_from n i a) (drop i ys)

  pub backward-none : (i : ℕ) → n ≤ i → backward_from i ≡ []
  unfolding backward
  backward-none i h = ap (λ rs. backward f i rs (drop i ys)) (rows_end n i a h)

  pub backward_tests_none : (i : ℕ) → n ≤ i → backward_tests i ≡ true
  unfolding backward_in_range
  backward_tests_none i h = ap (λ rs. backward_in_range f i rs (drop i ys)) (rows_end n i a h)

  pub backward-all : backward_from 0 ≡ backward f 0 (matrix n a) ys
  backward-all = ap (λ rs. backward f 0 rs ys) (rows_all n a)

  pub backward_tests_all : backward_tests 0 ≡ backward_in_range f 0 (matrix n a) ys
  backward_tests_all = ap (λ rs. backward_in_range f 0 rs ys) (rows_all n a)

  -- in row p: what is divided by the entry on the diagonal, and that entry
  abbrev pub dividend : ℕ → Float
  dividend p = subtract_products f (at ys p) (drop (p + 1) (take n (drop (p * n) a))) (backward_from (p + 1))

  abbrev pub dividend_in_range : ℕ → Bool
  dividend_in_range p = subtractions_in_range f (at ys p) (drop (p + 1) (take n (drop (p * n) a))) (backward_from (p + 1))

  abbrev pub pivot : ℕ → Float
  pivot p = at (take n (drop (p * n) a)) p

  module _ (l : length ys ≡ n) where
    pub backward-step : (p : ℕ) → p < n → backward_from p ≡ div f (dividend p) (pivot p) ∷ backward_from (p + 1)
    unfolding backward
    backward-step p h = ap₂ (backward f p) (rows_next n p a h) (drop_more ys p zero_float (omega arith))

    pub backward_tests_step : (p : ℕ) → p < n → backward_tests p ≡ (backward_tests (p + 1) && dividend_in_range p && quotient_in_range f (dividend p) (pivot p))
    unfolding backward_in_range
    backward_tests_step p h = ap₂ (backward_in_range f p) (rows_next n p a h) (drop_more ys p zero_float (omega arith))

    -- what is out of range stays so
    pub backward-fails : (i : ℕ) → i ≤ n → backward_tests i ≡ false → backward_tests 0 ≡ false
    backward-fails zero h e = e
    backward-fails (suc i) h e =
        backward-fails i (omega arith)
        (backward_tests_step i h
        ∙ and_left (backward_tests (i + 1) && dividend_in_range i) (quotient_in_range f (dividend i) (pivot i)) (and_left (backward_tests (i + 1)) (dividend_in_range i) (ap backward_tests (add-one i) ∙ e)))

-- ---- the loop over the slices: ws is the work row at the start, and w as it is when the entries from place i on are solved
module _ {X : Type 0} (v : X → Float) (f : Format) (n : ℕ) (lu ws : List X) where
  pub record SolvedFrom (i : ℕ) (w : List X) : Type 0 where
    pub len : length w ≡ length ws
    pub before : take i w ≡ take i ws
    pub entries : map v (drop i w) ≡ backward_from f n (map v lu) (map v ws) i
    pub range : backward_tests f n (map v lu) (map v ws) i ≡ true

  pub solved-none : length ws ≡ n → SolvedFrom n ws
  solved-none l =
      record {
        len = refl;
        before = refl;
        entries = ap (map v) (drop_all n ws (omega arith)) ∙ sym (backward-none f n (map v lu) (map v ws) n (omega arith));
        range = backward_tests_none f n (map v lu) (map v ws) n (omega arith);
      }

  -- a turn at place p: r is that row of the matrix, and y the entry that is read from the work row
  module _ (i p : ℕ) (w r : List X) (y : X) (next : p + 1 ≡ i) (h : p < n) (lw : length ws ≡ n) (is_r : r ≡ take n (drop (p * n) lu)) (lr : length r ≡ n) (solved : SolvedFrom i w) (is_y : y ≡ get_or w p y) where
    lv : length (map v ws) ≡ n
    lv = length-map ws v ∙ lw

    solved-next : SolvedFrom (p + 1) w
    solved-next = subst (λ j. SolvedFrom j w) (sym next) solved

    y-is : v y ≡ at (map v ws) p
    y-is =
        let within : p < length ws = omega arith in
        ap v
        (is_y
        ∙ sym (get_or-take (p + 1) w p y (omega arith))
        ∙ ap (λ zs. get_or zs p y) solved-next.before
        ∙ get_or-take (p + 1) ws p y (omega arith))
        ∙ sym (get_or-map v ws p y zero_float within)

    -- what is computed of the slices is what the model computes
    same : {Z : Type 0} (g : Float → Row → Row → Z)
        → g (v y) (map v (from (p + 1) r)) (map v (from (p + 1) w)) ≡ g (at (map v ws) p) (drop (p + 1) (take n (drop (p * n) (map v lu)))) (backward_from f n (map v lu) (map v ws) (p + 1))
    same g =
        ap (λ s. g s (map v (from (p + 1) r)) (map v (from (p + 1) w))) y-is
        ∙ ap₂ (g (at (map v ws) p)) (ap (map v) (from-is (p + 1) r) ∙ sym (drop-map v (p + 1) r) ∙ ap (drop (p + 1)) (row-values v n p lu r is_r)) (ap (map v) (from-is (p + 1) w) ∙ solved-next.entries)

    -- row p is out of range, so all is
    fails : backward_tests f n (map v lu) (map v ws) p ≡ false → false ≡ backward_in_range f 0 (matrix n (map v lu)) (map v ws)
    fails e = sym (sym (backward_tests_all f n (map v lu) (map v ws)) ∙ backward-fails f n (map v lu) (map v ws) lv p (omega arith) e)

    pub turn_fail : subtractions_in_range f (v y) (map v (from (p + 1) r)) (map v (from (p + 1) w)) ≡ false → false ≡ backward_in_range f 0 (matrix n (map v lu)) (map v ws)
    turn_fail e =
        fails
        (backward_tests_step f n (map v lu) (map v ws) lv p h
        ∙ and_left _ _ (and_right _ _ (sym (same (subtractions_in_range f)) ∙ e)))

    -- s is divided by d, the entry on the diagonal
    module _ (s d : X) (e : subtractions_in_range f (v y) (map v (from (p + 1) r)) (map v (from (p + 1) w)) ≡ true) (is-s : v s ≡ subtract_products f (v y) (map v (from (p + 1) r)) (map v (from (p + 1) w))) (is-d : d ≡ get_or r p d) where
      quotient_is : {Z : Type 0} (g : Float → Float → Z) → g (v s) (v d) ≡ g (dividend f n (map v lu) (map v ws) p) (pivot f n (map v lu) (map v ws) p)
      quotient_is g = ap₂ g (is-s ∙ same (subtract_products f)) (sym (entry_value v n p p lu r d is_r lr h is-d))

      pub turn_quotient_fail : quotient_in_range f (v s) (v d) ≡ false → false ≡ backward_in_range f 0 (matrix n (map v lu)) (map v ws)
      turn_quotient_fail q =
          fails
          (backward_tests_step f n (map v lu) (map v ws) lv p h
          ∙ and_right _ _ (sym (quotient_is (quotient_in_range f)) ∙ q))

      pub turn_next : (x : X) → quotient_in_range f (v s) (v d) ≡ true → v x ≡ div f (v s) (v d) → SolvedFrom p (set w p x)
      turn_next x q is_x =
          let within : p < length w = omega (arith, solved-next.len) in
          record {
            len = length-set w p x ∙ solved-next.len;
            before =
                take-set w p x
                ∙ sym (take-take p (p + 1) w (omega arith))
                ∙ ap (take p) solved-next.before
                ∙ take-take p (p + 1) ws (omega arith);
            entries =
                ap (map v) (drop-set w p x within)
                ∙ ap₂ ◌∷◌ (is_x ∙ quotient_is (div f)) solved-next.entries
                ∙ sym (backward-step f n (map v lu) (map v ws) lv p h);
            range =
                backward_tests_step f n (map v lu) (map v ws) lv p h
                ∙ and_from _ _ (and_from _ _ solved-next.range (sym (same (subtractions_in_range f)) ∙ e)) (sym (quotient_is (quotient_in_range f)) ∙ q);
          }

  -- all entries
  module _ (w : List X) (solved : SolvedFrom 0 w) where
    pub all-range : true ≡ backward_in_range f 0 (matrix n (map v lu)) (map v ws)
    all-range = sym solved.range ∙ backward_tests_all f n (map v lu) (map v ws)

    pub all-entries : map v w ≡ backward f 0 (matrix n (map v lu)) (map v ws)
    all-entries = solved.entries ∙ backward-all f n (map v lu) (map v ws)
