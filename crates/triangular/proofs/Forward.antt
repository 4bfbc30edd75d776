-- The forward solve as its loop takes it: the rows from i on, the next entry, and the end.
use Rattle.std.proofs.Common.{◌≡◌, ℕ, ◌+◌, ◌*◌, ◌<◌, ◌≤◌, Bool, true, false, ◌&&◌, List, [], ◌∷◌, ◌++◌, map, length, get_or, take, drop, set, sym, ap, ◌∙◌, subst, ap₂, arith}
use lib.Ieee.{Float, Format}
use Rattle.std.proofs.lemmas.List.{length-map, length-take-le, get_or-map, take-map, drop_more}
use Rattle.element.specs.Matrix.{Row, at, zero_float}
use Rattle.element.specs.Products.{subtract_products, subtractions_in_range}
use Rattle.element.proofs.Rows.{rows_from, rows_next, rows_end, row-values, written}
use Rattle.model.specs.Solve.{forward, forward_in_range, permuted}

module _ (f : Format) (n : ℕ) (a b : Row) (o : List ℕ) where
  -- with `done` written, what is left comes to r, and its tests to p
  abbrev pub ForwardTo : Row → ℕ → Row → Type 0
  ForwardTo done i r = forward f (rows_from n i a) (permuted b (drop i o)) done ≡ r

  abbrev pub ForwardTestsTo : Row → ℕ → Bool → Type 0
  ForwardTestsTo done i p = forward_in_range f (rows_from n i a) (permuted b (drop i o)) done ≡ p

  pub forward_end : (done : Row) (i : ℕ) (r : Row) → n ≤ i → ForwardTo done i r → done ≡ r
  unfolding forward
  forward_end done i r h t = sym (ap (λ rs. forward f rs (permuted b (drop i o)) done) (rows_end n i a h)) ∙ t

  pub forward_tests_end : (done : Row) (i : ℕ) (p : Bool) → n ≤ i → ForwardTestsTo done i p → p ≡ true
  unfolding forward_in_range
  forward_tests_end done i p h t = sym t ∙ ap (λ rs. forward_in_range f rs (permuted b (drop i o)) done) (rows_end n i a h)

  -- row i, done being the i entries before
  module _ (done : Row) (i : ℕ) (h : i < n) (k : i < length o) (l : length done ≡ i) where
    abbrev multipliers : Row
    multipliers = take i (take n (drop (i * n) a))

    abbrev next : Row
    next = done ++ subtract_products f (at b (get_or o i 0)) multipliers done ∷ []

    pub forward-next : (r : Row) → ForwardTo done i r → ForwardTo next (i + 1) r
    unfolding forward
    forward-next r t =
        ap (λ j. forward f (rows_from n (i + 1) a) (permuted b (drop (i + 1) o)) (done ++ subtract_products f (at b (get_or o i 0)) (take j (take n (drop (i * n) a))) done ∷ [])) (sym l)
        ∙ sym (ap₂ (λ rs os. forward f rs (permuted b os) done) (rows_next n i a h) (drop_more o i 0 k))
        ∙ t

    module _ (p : Bool) (t : ForwardTestsTo done i p) where
      opened : (subtractions_in_range f (at b (get_or o i 0)) multipliers done && forward_in_range f (rows_from n (i + 1) a) (permuted b (drop (i + 1) o)) next) ≡ p
      unfolding forward_in_range
      opened =
          ap
          (λ j.
          let ms = take j (take n (drop (i * n) a)) in
          subtractions_in_range f (at b (get_or o i 0)) ms done
          && forward_in_range f (rows_from n (i + 1) a) (permuted b (drop (i + 1) o)) (done ++ subtract_products f (at b (get_or o i 0)) ms done ∷ []))
          (sym l)
          ∙ sym (ap₂ (λ rs os. forward_in_range f rs (permuted b os) done) (rows_next n i a h) (drop_more o i 0 k))
          ∙ t

      pub forward_tests_next : subtractions_in_range f (at b (get_or o i 0)) multipliers done ≡ true → ForwardTestsTo next (i + 1) p
      forward_tests_next e = sym (ap (λ q. q && forward_in_range f (rows_from n (i + 1) a) (permuted b (drop (i + 1) o)) next) e) ∙ opened

      pub forward_tests_fail : subtractions_in_range f (at b (get_or o i 0)) multipliers done ≡ false → p ≡ false
      forward_tests_fail e = sym opened ∙ ap (λ q. q && forward_in_range f (rows_from n (i + 1) a) (permuted b (drop (i + 1) o)) next) e

-- ---- a turn of the loop, over the slices: r is row i of the matrix, w the work row, and x the entry of the right side that was read
module _ {X : Type 0} (v : X → Float) (f : Format) (n : ℕ) (lu bs w r : List X) (o : List ℕ) (i place : ℕ) (x : X) (h : i < n) (lo : length o ≡ n) (lb : length bs ≡ n) (lw : length w ≡ n)
    (is_r : r ≡ take n (drop (i * n) lu)) (is_place : place ≡ get_or o i 0) (below : place < n) (is_x : x ≡ get_or bs place x) where
  listed : i < length o
  listed = omega arith

  done_length : length (map v (take i w)) ≡ i
  done_length = length-map (take i w) v ∙ length-take-le i w (omega arith)

  right : v x ≡ at (map v bs) (get_or o i 0)
  right = ap v is_x ∙ sym (get_or-map v bs place x zero_float (omega arith)) ∙ ap (at (map v bs)) is_place

  -- what is computed of the slices is what the model computes
  same : {Z : Type 0} (g : Float → Row → Row → Z) → g (v x) (map v (take i r)) (map v (take i w)) ≡ g (at (map v bs) (get_or o i 0)) (take i (take n (drop (i * n) (map v lu)))) (map v (take i w))
  same g = ap₂ (λ s ms. g s ms (map v (take i w))) right (sym (take-map v i r) ∙ ap (take i) (row-values v n i lu r is_r))

  pub turn_fail : (p : Bool) → ForwardTestsTo f n (map v lu) (map v bs) o (map v (take i w)) i p → subtractions_in_range f (v x) (map v (take i r)) (map v (take i w)) ≡ false → p ≡ false
  turn_fail p t e = forward_tests_fail f n (map v lu) (map v bs) o (map v (take i w)) i h listed done_length p t (sym (same (subtractions_in_range f)) ∙ e)

  -- y is written to place i
  module _ (y : X) (e : v y ≡ subtract_products f (v x) (map v (take i r)) (map v (take i w))) where
    written_is : map v (take i w) ++ subtract_products f (at (map v bs) (get_or o i 0)) (take i (take n (drop (i * n) (map v lu)))) (map v (take i w)) ∷ [] ≡ map v (take (i + 1) (set w i y))
    written_is = sym (written v w i y (omega arith) ∙ ap (λ s. map v (take i w) ++ s ∷ []) (e ∙ same (subtract_products f)))

    pub turn_next : (z : Row) → ForwardTo f n (map v lu) (map v bs) o (map v (take i w)) i z → ForwardTo f n (map v lu) (map v bs) o (map v (take (i + 1) (set w i y))) (i + 1) z
    turn_next z t =
        subst (λ d. ForwardTo f n (map v lu) (map v bs) o d (i + 1) z) written_is
        (forward-next f n (map v lu) (map v bs) o (map v (take i w)) i h listed done_length z t)

    pub turn_tests_next : (p : Bool) → ForwardTestsTo f n (map v lu) (map v bs) o (map v (take i w)) i p → subtractions_in_range f (v x) (map v (take i r)) (map v (take i w)) ≡ true
        → ForwardTestsTo f n (map v lu) (map v bs) o (map v (take (i + 1) (set w i y))) (i + 1) p
    turn_tests_next p t q =
        subst (λ d. ForwardTestsTo f n (map v lu) (map v bs) o d (i + 1) p) written_is
        (forward_tests_next f n (map v lu) (map v bs) o (map v (take i w)) i h listed done_length p t (sym (same (subtractions_in_range f)) ∙ q))
