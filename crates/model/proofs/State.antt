-- The state of the factoring after k columns, in exact values, and how the exchange of column k keeps it.
use Rattle.std.proofs.Common.{◌≡◌, ℕ, ◌^◌, ◌<◌, ◌≤◌, List, length, ℤ, nat_abs, ap, inl, inr, arith}
use lib.Ieee.{Format, prec}
use Rattle.std.proofs.lemmas.Bool.{cases_lt}
use Rattle.exact.specs.Value.{unit, value, magnitude}
use Rattle.analysis.proofs.Elimination.{Eliminated, Swapped, eliminated-swap}
use Rattle.element.specs.Matrix.{Matrix, at, row}
use Rattle.model.specs.Factor.{Factoring, exchange, pivot}
use Rattle.model.specs.Promises.{place}
use Rattle.model.proofs.Slice.{Wide, FiniteValue}
use Rattle.model.proofs.Exchange.{exchanged-first}
use Rattle.model.proofs.Search.{pivot-largest}
use Rattle.model.proofs.Shape.{Shape, source, source-fixed, source_from, source-within, row-exchanged, place-exchanged, shape-exchange, wide-exchange}

-- the exact value of each entry
abbrev pub exactly : Matrix → ℕ → ℕ → ℤ
exactly m i j = value (at (row m i) j)

-- k columns of the matrix A of exact values are done; m are the rows and o their order
pub record State (f : Format) (n : ℕ) (A : ℕ → ℕ → ℤ) (k : ℕ) (m : Matrix) (o : List ℕ) : Type 0 where
  pub shape : Shape n m o
  pub wide : Wide n m
  pub values : (i j : ℕ) → i < n → j < n → FiniteValue f (at (row m i) j)
  pub eliminated : Eliminated (2 ^ prec f) n unit A k (exactly m) (place o)
  pub multipliers : (i j : ℕ) → i < n → j < i → j < k → nat_abs (exactly m i j) ≤ unit
  pub pivots : (i : ℕ) → i < n → i < k → 0 < nat_abs (exactly m i i)

-- the exchange before column k
module _ {f : Format} {n : ℕ} {A : ℕ → ℕ → ℤ} (k : ℕ) (s : Factoring) (hk : k < n) (x : State f n A k s.rows s.order) where
  abbrev σ : ℕ → ℕ
  σ = source k s.rows

  high : length s.rows ≡ n
  high = x.shape.height

  fixed : (i : ℕ) → i < k → σ i ≡ i
  fixed = source-fixed k n s.rows hk high

  from : (i : ℕ) → k ≤ i → k ≤ σ i
  from = source_from k n s.rows hk high

  within : (i : ℕ) → i < n → σ i < n
  within = source-within k n s.rows hk high

  moved : (i j : ℕ) → at (row (exchange k s).rows i) j ≡ at (row s.rows (σ i)) j
  moved i j = ap (λ r. at r j) (row-exchanged k n s hk x.shape i)

  swaps : Swapped n k σ (exactly s.rows) (exactly (exchange k s).rows) (place s.order) (place (exchange k s).order)
  swaps = record {
    fixed = fixed;
    from = λ i _ h. from i h;
    within = λ i hi _. within i hi;
    rows = λ i j _ _. ap value (moved i j);
    order = λ i _. place-exchanged k n s hk x.shape i;
  }

  left_of : (i j : ℕ) → j < i → j < k → j < σ i
  left_of i j h done = elim (cases_lt i k) [ inl early ↦ rw (fixed i early) h | inr late ↦ omega (arith, from i late) ]

  pub state_exchange : State f n A k (exchange k s).rows (exchange k s).order
  state_exchange = record {
    shape = shape-exchange k n s hk x.shape;
    wide = wide-exchange k n s hk x.shape x.wide;
    values = λ i j hi hj. rw (moved i j) (x.values (σ i) j (within i hi) hj);
    eliminated = eliminated-swap swaps x.eliminated;
    multipliers = λ i j hi h done. rw (moved i j) (x.multipliers (σ i) j (within i hi) (left_of i j h done) done);
    pivots = λ i hi done. rw (moved i i, fixed i done) (x.pivots i hi done);
  }

  -- row k now has the largest entry of column k
  pub largest-exchange : (i : ℕ) → k ≤ i → i < n → magnitude (at (row (exchange k s).rows i) k) ≤ magnitude (at (row (exchange k s).rows k) k)
  largest-exchange i h hi =
      let best = pivot-largest f k s.rows (rw high hk) (λ t ht. x.values t k (rw high at ht) hk) in
      rw (moved i k, moved k k, exchanged-first k (pivot k s.rows)) (best (σ i) (from i h) (rw high (within i hi)))
