-- The columns one after the other: an outcome Ok comes only from eliminating each of them, and so the state after all columns is reached.
use Rattle.std.proofs.Common.{◌≡◌, ℕ, zero, suc, ◌+◌, ◌^◌, ◌<◌, ◌≤◌, true, false, T, length, drop, ℤ, is_ok, Ok, sym, refl, ap, ◌∙◌, subst, arith}
use lib.Ieee.{Format, prec}
use Rattle.std.proofs.lemmas.Bool.{cond_both, both_ways, false≢true}
use Rattle.exact.specs.Value.{unit, is_zero}
use Rattle.analysis.proofs.Elimination.{eliminated_start}
use Rattle.element.specs.Matrix.{Matrix, at, row}
use Rattle.model.specs.Factor.{Factoring, eliminate_rows_in_range, exchange, eliminate, column, columns, up_to, factored}
use Rattle.model.specs.Promises.{place}
use Rattle.model.proofs.Slice.{Wide, FiniteValue}
use Rattle.model.proofs.Exchange.{get_or-up_to}
use Rattle.model.proofs.Rows.{cleared}
use Rattle.model.proofs.Shape.{shape_start}
use Rattle.model.proofs.State.{exactly, State, state_exchange, largest-exchange}
use Rattle.model.proofs.Elimination.{state_cleared}

-- column k, with s after the exchange, was eliminated and left t
record ColumnDone (f : Format) (k : ℕ) (s t : Factoring) : Type 0 where
  nonzero : is_zero (at (row s.rows k) k) ≡ false
  fine : eliminate_rows_in_range f k (row s.rows k) (drop (k + 1) s.rows) ≡ true
  result : t ≡ record { rows = cleared f k (row s.rows k) s.rows; order = s.order; outcome = s.outcome }

eliminate_done : (f : Format) (k : ℕ) (s : Factoring) → (eliminate f k s).outcome ≡ Ok tt → ColumnDone f k s (eliminate f k s)
eliminate_done f k s =
    let p = row s.rows k in
    let P : Factoring → Type 0 = λ t. t.outcome ≡ Ok tt → ColumnDone f k s t in
    cond_both (is_zero (at p k)) _ _ P (λ _ ok. absurd (false≢true (ap is_ok ok)))
    (λ some. cond_both (eliminate_rows_in_range f k p (drop (k + 1) s.rows)) _ _ P
    (λ fine ok. record { nonzero = some; fine = fine; result = refl }) (λ _ ok. absurd (false≢true (ap is_ok ok))))

column_done : (f : Format) (k : ℕ) (s : Factoring) → (column f k s).outcome ≡ Ok tt → ColumnDone f k (exchange k s) (column f k s)
column_done f k s =
    cond_both (is_ok s.outcome) (eliminate f k (exchange k s)) s (λ t. t.outcome ≡ Ok tt → ColumnDone f k (exchange k s) t)
    (λ _. eliminate_done f k (exchange k s))
    (λ failed ok. absurd (both_ways (is_ok s.outcome) failed (ap is_ok ok)))

-- ---- from column to column
module _ (f : Format) (n : ℕ) (A : ℕ → ℕ → ℤ) (few : n < 2 ^ prec f) where
  -- the state after k columns, if nothing was refused
  abbrev Reached : ℕ → Factoring → Type 0
  Reached k s = s.outcome ≡ Ok tt → State f n A k s.rows s.order

  state_column : (k : ℕ) (s : Factoring) → k < n → Reached k s → Reached (suc k) (column f k s)
  state_column k s hk before ok =
      let done = column_done f k s ok in
      let ok-before : s.outcome ≡ Ok tt = sym (ap (λ t. t.outcome) done.result) ∙ ok in
      let x = before ok-before in
      let fine = subst T (sym done.fine) tt in
      rw done.result
      (state_cleared k (exchange k s).rows (exchange k s).order few hk (state_exchange k s hk x) (largest-exchange k s hk x) done.nonzero fine)

  state_columns : (c : ℕ) (s : Factoring) → c ≤ n → Reached 0 s → Reached c (columns f c s)
  unfolding columns
  state_columns zero s h start = start
  state_columns (suc c) s h start = state_column c (columns f c s) h (state_columns c s (omega arith) start)

-- ---- from the given rows m, of which A are the exact values
module _ (f : Format) (n : ℕ) (A : ℕ → ℕ → ℤ) (few : n < 2 ^ prec f) (m : Matrix) (height : length m ≡ n) (wide : Wide n m)
    (values : (i j : ℕ) → i < n → j < n → FiniteValue f (at (row m i) j)) (given : (i j : ℕ) → i < n → j < n → exactly m i j ≡ A i j) where
  state_start : State f n A 0 m (up_to (length m))
  state_start = record {
    shape = shape_start n m height;
    wide = wide;
    values = values;
    eliminated =
        eliminated_start (2 ^ prec f) n unit A (exactly m) (place (up_to (length m))) given (λ i h. get_or-up_to (length m) i 0 (rw height h));
    multipliers = λ i j _ _ none. absurd (omega arith);
    pivots = λ i _ none. absurd (omega arith);
  }

  pub state_factored : (factored f m).outcome ≡ Ok tt → State f n A n (factored f m).rows (factored f m).order
  state_factored ok =
      subst (λ c. State f n A c (factored f m).rows (factored f m).order) height
      (state_columns f n A few (length m) (record { rows = m; order = up_to (length m); outcome = Ok tt }) (omega arith) (λ _. state_start) ok)
