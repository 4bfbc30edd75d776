-- What the factoring keeps whatever its outcome: the number of rows, their lengths, and an order in which each row stands exactly once.
use Rattle.std.proofs.Common.{◌≡◌, ℕ, zero, suc, ◌+◌, ◌<◌, ◌≤◌, List, [], length, get_or, drop, is_ok, refl, ap, ◌∙◌, inl, inr, le_refl, arith}
use lib.Ieee.{Format}
use Rattle.std.proofs.lemmas.Bool.{cond_both, cases_lt}
use Rattle.exact.specs.Value.{is_zero}
use Rattle.element.specs.Matrix.{Matrix, at, row}
use Rattle.model.specs.Factor.{Factoring, pivot, eliminate_rows_in_range, exchange, eliminate, columns, up_to, factored}
use Rattle.model.specs.Promises.{place}
use Rattle.model.proofs.Slice.{Wide}
use Rattle.model.proofs.Exchange.{exchanged, exchanged-fixed, exchanged_from, exchanged-within, length-swapped, get_or-swapped, Permutes, permutes_same, permutes_exchanged, length-up_to, get_or-up_to}
use Rattle.model.proofs.Search.{pivot-place}
use Rattle.model.proofs.Rows.{cleared, length-cleared, length-eliminate_row, row_kept, row-cleared}

-- n rows, in an order in which each of them stands once
pub record Shape (n : ℕ) (m : Matrix) (o : List ℕ) : Type 0 where
  pub height : length m ≡ n
  pub places : length o ≡ n
  pub once : Permutes n (place o)

-- ---- the exchange
-- the place from which a row comes to place i
abbrev pub source : ℕ → Matrix → ℕ → ℕ
source k m = exchanged k (pivot k m)

module _ (k n : ℕ) (m : Matrix) (hk : k < n) (height : length m ≡ n) where
  found_from : k ≤ pivot k m
  found_from = (pivot-place k m (rw height hk)).0

  found_within : pivot k m < n
  found_within = rw height at (pivot-place k m (rw height hk)).1

  pub source-fixed : (i : ℕ) → i < k → source k m i ≡ i
  source-fixed i = exchanged-fixed k (pivot k m) k i (le_refl k) found_from

  pub source_from : (i : ℕ) → k ≤ i → k ≤ source k m i
  source_from i = exchanged_from k (pivot k m) k i (le_refl k) found_from

  pub source-within : (i : ℕ) → i < n → source k m i < n
  source-within i = exchanged-within k (pivot k m) n i hk found_within

module _ (k n : ℕ) (s : Factoring) (hk : k < n) (shape : Shape n s.rows s.order) where
  within : pivot k s.rows < n
  within = found_within k n s.rows hk shape.height

  pub row-exchanged : (i : ℕ) → row (exchange k s).rows i ≡ row s.rows (source k s.rows i)
  row-exchanged i = get_or-swapped [] k (pivot k s.rows) s.rows i (rw shape.height hk) (rw shape.height within)

  pub place-exchanged : (i : ℕ) → place (exchange k s).order i ≡ place s.order (source k s.rows i)
  place-exchanged i = get_or-swapped 0 k (pivot k s.rows) s.order i (rw shape.places hk) (rw shape.places within)

  pub shape-exchange : Shape n (exchange k s).rows (exchange k s).order
  shape-exchange = record {
    height = length-swapped [] k (pivot k s.rows) s.rows ∙ shape.height;
    places = length-swapped 0 k (pivot k s.rows) s.order ∙ shape.places;
    once = permutes_exchanged n k (pivot k s.rows) (place s.order) (place (exchange k s).order) hk within (λ t _. place-exchanged t) shape.once;
  }

  pub wide-exchange : Wide n s.rows → Wide n (exchange k s).rows
  wide-exchange wide i hi = ap length (row-exchanged i) ∙ wide (source k s.rows i) (source-within k n s.rows hk shape.height i hi)

-- ---- the elimination
module _ (f : Format) (k n : ℕ) (m : Matrix) (hk : k < n) (height : length m ≡ n) where
  pub shape-cleared : (o : List ℕ) → Shape n m o → Shape n (cleared f k (row m k) m) o
  shape-cleared o shape = record {
    height = length-cleared f k (row m k) m (rw height hk) ∙ height;
    places = shape.places;
    once = shape.once;
  }

  pub wide-cleared : Wide n m → Wide n (cleared f k (row m k) m)
  wide-cleared wide i hi = elim (cases_lt k i) [
    | inl under ↦ ap length (row-cleared f k (row m k) m (rw height hk) i under (rw height hi))
        ∙ length-eliminate_row f k n (row m k) (row m i) hk (wide k hk) (wide i hi)
    | inr done ↦ ap length (row_kept f k (row m k) m (rw height hk) i done) ∙ wide i hi
  ]

-- ---- all columns: P of the rows and the order is kept if the exchange and the elimination keep it
module _ (f : Format) (n : ℕ) (P : Matrix → List ℕ → Type 0)
    (exchanges : (k : ℕ) (s : Factoring) → k < n → P s.rows s.order → P (exchange k s).rows (exchange k s).order)
    (clears : (k : ℕ) (m : Matrix) (o : List ℕ) → k < n → P m o → P (cleared f k (row m k) m) o) where
  eliminate_keeps : (k : ℕ) (s : Factoring) → k < n → P s.rows s.order → P (eliminate f k s).rows (eliminate f k s).order
  eliminate_keeps k s hk kept =
      let p = row s.rows k in
      let Q : Factoring → Type 0 = λ t. P t.rows t.order in
      cond_both (is_zero (at p k)) _ _ Q (λ _. kept)
      (λ _. cond_both (eliminate_rows_in_range f k p (drop (k + 1) s.rows)) _ _ Q (λ _. clears k s.rows s.order hk kept) (λ _. kept))

  columns_keep : (c : ℕ) (s : Factoring) → c ≤ n → P s.rows s.order → P (columns f c s).rows (columns f c s).order
  unfolding columns
  columns_keep zero s h kept = kept
  columns_keep (suc c) s h kept =
      let so_far = columns_keep c s (omega arith) kept in
      let t = columns f c s in
      cond_both (is_ok t.outcome) (eliminate f c (exchange c t)) t (λ u. P u.rows u.order)
      (λ _. eliminate_keeps c (exchange c t) h (exchanges c t h so_far)) (λ _. so_far)

-- ---- the factoring of a matrix, whatever its outcome
pub shape_start : (n : ℕ) (m : Matrix) → length m ≡ n → Shape n m (up_to (length m))
shape_start n m e = record {
  height = e;
  places = length-up_to (length m) ∙ e;
  once = permutes_same n (place (up_to (length m))) (λ i h. get_or-up_to (length m) i 0 (rw e h));
}

module _ (f : Format) (m : Matrix) where
  abbrev n : ℕ
  n = length m

  pub factored-shape : Shape n (factored f m).rows (factored f m).order
  factored-shape =
      columns_keep f n (Shape n) (λ k s hk shape. shape-exchange k n s hk shape) (λ k m o hk shape. shape-cleared f k n m hk shape.height o shape)
      n _ (le_refl n) (shape_start n m refl)

  pub factored-order-length : length (factored f m).order ≡ length m
  factored-order-length = factored-shape.places

  pub factored-order-below : (i : ℕ) → i < length m → get_or (factored f m).order i 0 < length m
  factored-order-below = factored-shape.once.below

  -- n rows of n entries each
  pub factored-rows : Wide n m → (length (factored f m).rows ≡ n) × Wide n (factored f m).rows
  factored-rows wide =
      let kept = columns_keep f n (λ m o. Shape n m o × Wide n m)
      (λ k s hk h. (shape-exchange k n s hk h.0, wide-exchange k n s hk h.0 h.1))
      (λ k m o hk h. (shape-cleared f k n m hk h.0.height o h.0, wide-cleared f k n m hk h.0.height h.1))
      n _ (le_refl n) (shape_start n m refl, wide) in
      (kept.0.height, kept.1)
