-- The elimination of column k: what it does to each entry, in exact values, and how it keeps the state of the factoring.
use Rattle.std.proofs.Common.{◌≡◌, ℕ, suc, ◌+◌, ◌^◌, ◌<◌, ◌≤◌, false, T, List, length, drop, ℤ, pos, sym, ap, ◌∙◌, inl, inr, arith}
use lib.Ieee.{Format, prec, mul, div}
use lib.Ieee.Fits.{sub-fits, div-fits, and_r}
use lib.Ieee.Scale.{finite}
use Rattle.std.proofs.lemmas.Bool.{cases_lt, cases_order}
use Rattle.exact.specs.Value.{unit, value, magnitude, is_zero}
use Rattle.exact.specs.Range.{product_in_range, quotient_in_range}
use Rattle.exact.proofs.Integer.{nat_abs-*ℤ}
use Rattle.exact.proofs.Laws.{quotient-law, quotient_at_most_one}
use Rattle.exact.proofs.Magnitude.{magnitude-pos}
use Rattle.analysis.proofs.Elimination.{Cleared, eliminated-step}
use Rattle.element.specs.Matrix.{Row, Matrix, at, row}
use Rattle.element.specs.Products.{subtract_product, subtraction_in_range}
use Rattle.model.specs.Factor.{eliminate_row, eliminate_row_in_range, eliminate_rows_in_range}
use Rattle.element.proofs.Step.{product_subtracted}
use Rattle.model.proofs.Slice.{FiniteValue}
use Rattle.model.proofs.Rows.{cleared, row_kept, row-cleared, row_in_range, at_left, at-multiplier, multiplier_in_range, at_right, right_in_range}
use Rattle.model.proofs.Shape.{shape-cleared, wide-cleared}
use Rattle.model.proofs.State.{exactly, State}

-- m are the rows after the exchange; the pivot is not zero, and no entry below it is larger
module _ {f : Format} {n : ℕ} {A : ℕ → ℕ → ℤ} (k : ℕ) (m : Matrix) (o : List ℕ) (few : n < 2 ^ prec f) (hk : k < n) (x : State f n A k m o)
    (largest : (i : ℕ) → k ≤ i → i < n → magnitude (at (row m i) k) ≤ magnitude (at (row m k) k))
    (nonzero : is_zero (at (row m k) k) ≡ false) (fine : T (eliminate_rows_in_range f k (row m k) (drop (k + 1) m))) where
  abbrev p : Row
  p = row m k

  abbrev m' : Matrix
  m' = cleared f k p m

  tall : k < length m
  tall = rw x.shape.height hk

  at_above : (i j : ℕ) → i ≤ k → at (row m' i) j ≡ at (row m i) j
  at_above i j h = ap (λ r. at r j) (row_kept f k p m tall i h)

  positive : 0 < magnitude (at p k)
  positive = magnitude-pos (at p k) (x.values k k hk hk).number nonzero

  -- below row k
  module _ (i : ℕ) (hi : i < n) (under : k < i) where
    cleared-row : row m' i ≡ eliminate_row f k p (row m i)
    cleared-row = row-cleared f k p m tall i under (rw x.shape.height hi)

    row_fine : T (eliminate_row_in_range f k p (row m i))
    row_fine = row_in_range f k p m tall i under (rw x.shape.height hi) fine

    at-below : (j : ℕ) → j < k → at (row m' i) j ≡ at (row m i) j
    at-below j h = ap (λ r. at r j) cleared-row ∙ at_left f k n p (row m i) hk (x.wide k hk) (x.wide i hi) j h

    quotient : at (row m' i) k ≡ div f (at (row m i) k) (at p k)
    quotient = ap (λ r. at r k) cleared-row ∙ at-multiplier f k n p (row m i) hk (x.wide k hk) (x.wide i hi)

    difference : (j : ℕ) → k < j → j < n → at (row m' i) j ≡ subtract_product f (at (row m i) j) (at (row m' i) k) (at p j)
    difference j h hj =
        ap (λ r. at r j) cleared-row ∙ at_right f k n p (row m i) hk (x.wide k hk) (x.wide i hi) j h hj
        ∙ ap (λ l. subtract_product f (at (row m i) j) l (at p j)) (sym quotient)

    quotient-fine : T (quotient_in_range f (at (row m i) k) (at p k))
    quotient-fine = multiplier_in_range f k n p (row m i) hk (x.wide k hk) (x.wide i hi) row_fine

    difference-fine : (j : ℕ) → k < j → j < n → T (subtraction_in_range f (at (row m i) j) (at (row m' i) k) (at p j))
    difference-fine j h hj = rw quotient (right_in_range f k n p (row m i) hk (x.wide k hk) (x.wide i hi) j h hj row_fine)

    -- the multiplier is finite and at most 1
    bounded : T (finite (at (row m' i) k)) × (magnitude (at (row m' i) k) ≤ unit)
    bounded =
        let divisor = x.values k k hk hk in
        let entry = x.values i k hi hk in
        rw quotient
        (quotient_at_most_one f (at (row m i) k) (at p k) entry.fit divisor.fit entry.number positive (largest i (omega arith) hi))

    values-below : (j : ℕ) → j < n → FiniteValue f (at (row m' i) j)
    values-below j hj = elim (cases_order j k) [
      | inl here ↦ rw here (record { fit = rw quotient (div-fits f (at (row m i) k) (at p k)); number = bounded.0 })
      | inr (inl left) ↦ rw (at-below j left) (x.values i j hi hj)
      | inr (inr right) ↦ (
          let s = at (row m i) j in
          let l = at (row m' i) k in
          rw (difference j right hj) (record {
            fit = sub-fits f s (mul f l (at p j));
            number = and_r (product_in_range f l (at p j)) (finite (subtract_product f s l (at p j))) (difference-fine j right hj);
          }))
    ]

  at_done : (i j : ℕ) → i < n → j < k → at (row m' i) j ≡ at (row m i) j
  at_done i j hi h = elim (cases_lt k i) [ inl under ↦ at-below i hi under j h | inr above ↦ at_above i j above ]

  clears : Cleared (2 ^ prec f) n unit k (exactly m) (exactly m')
  clears = record {
    rows = λ i j _ _ h. ap value (at_above i j h);
    columns = λ i j hi under h. ap value (at-below i hi under j h);
    factor = λ i hi under.
        rw (quotient i hi under)
        (quotient-law f (at (row m i) k) (at p k) (x.values i k hi hk).fit (x.values k k hk hk).fit (quotient-fine i hi under)).of_computed;
    entry = λ i j hi hj under h.
        let l = at (row m' i) k in
        let s = at (row m i) j in
        let fit = (values-below i hi under k hk).fit in
        let near = product_subtracted f s l (at p j) (x.values i j hi hj).fit fit (x.values k j hk hj).fit (difference-fine i hi under j h hj) in
        rw (nat_abs-*ℤ (value l) (exactly m k j), nat_abs-*ℤ (exactly m' i j) (pos unit), difference i hi under j h hj) near;
  }

  pub state_cleared : State f n A (suc k) m' o
  state_cleared = record {
    shape = shape-cleared f k n m hk x.shape.height o x.shape;
    wide = wide-cleared f k n m hk x.shape.height x.wide;
    values = λ i j hi hj. elim (cases_lt k i) [ inl under ↦ values-below i hi under j hj | inr done ↦ rw (at_above i j done) (x.values i j hi hj) ];
    eliminated = eliminated-step clears (omega arith) x.eliminated;
    multipliers = λ i j hi h done. elim (cases_lt j k) [
      | inl early ↦ rw (at_done i j hi early) (x.multipliers i j hi h early)
      | inr late ↦ (let here : j ≡ k = omega arith in rw here (bounded i hi (omega arith)).1)
    ];
    pivots = λ i hi done. rw (at_above i i (omega arith)) (elim (cases_lt i k) [
      | inl early ↦ x.pivots i hi early
      | inr late ↦ (let here : i ≡ k = omega arith in rw here positive)
    ]);
  }
