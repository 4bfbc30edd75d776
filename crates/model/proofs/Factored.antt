-- The factors of a matrix that was not refused: the promise on the slice that holds them.
use Rattle.std.proofs.Common.{◌≡◌, ℕ, ◌-◌, ◌*◌, ◌^◌, ◌<◌, ◌≤◌, List, ℤ, pos, ◌-ℤ◌, ◌*ℤ◌, nat_abs, Ok, sym, refl, ap, ◌∙◌, arith}
use lib.Ieee.{Format, prec}
use Rattle.exact.specs.Value.{unit, value}
use Rattle.analysis.specs.Factors.{weight}
use Rattle.analysis.proofs.Elimination.{Swapped, eliminated-swap}
use Rattle.analysis.proofs.Factors.{factors-near}
use Rattle.element.specs.Matrix.{Row, Matrix, matrix}
use Rattle.model.specs.Factor.{factored}
use Rattle.model.specs.Calls.{flat}
use Rattle.model.specs.Promises.{entry, place, factor_product, PivotsBounded, Square, FactorTheorem}
use Rattle.element.proofs.Entries.{length-rows_of, row-length, row_at}
use Rattle.model.proofs.Slice.{at-flat, size-within, square-values}
use Rattle.model.proofs.State.{exactly, State}
use Rattle.model.proofs.Columns.{state_factored}

module _ {f : Format} {n : ℕ} {A : ℕ → ℕ → ℤ} {m : Matrix} {o : List ℕ} (x : State f n A n m o) where
  pub entry-flat : (i j : ℕ) → i < n → j < n → entry n (flat m) i j ≡ exactly m i j
  entry-flat i j hi hj = ap value (at-flat n m (λ t h. x.wide t (rw x.shape.height at h)) i j (rw x.shape.height hi) hj)

  -- the same entries, read from the slice
  in_slice : Swapped n n (λ i. i) (exactly m) (entry n (flat m)) (place o) (place o)
  in_slice = record {
    fixed = λ i _. refl;
    from = λ i _ h. h;
    within = λ i h _. h;
    rows = entry-flat;
    order = λ i _. refl;
  }

  pub state_near : (i j : ℕ) → i < n → j < n
      → (2 ^ prec f - n) * nat_abs (A (place o i) j *ℤ pos unit -ℤ factor_product n (flat m) i j) ≤ n * weight unit n (entry n (flat m)) i j
  state_near = factors-near (eliminated-swap in_slice x.eliminated)

  pub state_pivots : PivotsBounded n (flat m) o
  state_pivots i hi =
      let once = x.shape.once in (
        λ j h. rw (entry-flat i j hi (omega arith)) (x.multipliers i j hi h (omega arith)),
        rw (entry-flat i i hi hi) (x.pivots i hi hi),
        (once.inverse i, once.inverse-below i hi, once.there i hi, λ q hq e. sym (once.back q hq) ∙ ap once.inverse e),
      )

-- the state after all columns of a matrix that a call takes
pub factored_state : (f : Format) (n : ℕ) (a : Row) → Square f n a → (factored f (matrix n a)).outcome ≡ Ok tt
    → State f n (entry n a) n (factored f (matrix n a)).rows (factored f (matrix n a)).order
factored_state f n a square =
    let few : n < 2 ^ prec f = omega (arith, size-within f n square.size) in
    state_factored f n (entry n a) few (matrix n a) (length-rows_of n n a) (λ i h. row-length n a i h square.long) (square-values square)
    (λ i j hi hj. ap value (row_at n a i hi j hj))

pub factor_theorem : FactorTheorem
factor_theorem f n a square ok = let x = factored_state f n a square ok in (state_near x, state_pivots x)
