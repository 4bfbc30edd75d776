-- A factoring column by column, as a loop over the columns takes it.
use Rattle.std.proofs.Common.{◌≡◌, ℕ, zero, suc, ◌+◌, ◌-◌, ◌<◌, Bool, true, false, cond, ◌++◌, take, drop, is_ok, Ok, Err, Result, sym, refl, ap, ◌∙◌, add-zero, add-suc, add-one, arith}
use lib.Ieee.{Format}
use Rattle.std.proofs.lemmas.Bool.{cond_both, cond-true, cond-false}
use Rattle.exact.specs.Value.{is_zero}
use Rattle.element.specs.Matrix.{Matrix, at, row}
use Rattle.model.specs.declared.FactorRefusal.{FactorRefusal}
use Rattle.model.specs.declared.FactorRefusal.TheVariants.{Input, Pivot, Range}
use Rattle.factor.specs.declared.factoring.Factoring.{Factoring as Held}
use Rattle.factor.specs.State.{SameSlices, eliminated}
use Rattle.model.specs.Factor.{Factoring, exchange, eliminate, eliminate_rows, eliminate_rows_in_range, column, columns}

-- from the factoring s on; t is the factoring before column k, and u that after it
module _ (f : Format) (s : Factoring) where
  pub columns-none : s ≡ columns f 0 s
  unfolding columns
  columns-none = refl

  pub columns-next : (k : ℕ) (t u : Factoring) → t ≡ columns f k s → u ≡ column f k t → u ≡ columns f (k + 1) s
  unfolding columns
  columns-next k t u e w = w ∙ ap (column f k) e ∙ ap (λ c. columns f c s) (sym (add-one k))

  -- once a column has refused, later columns change nothing
  refused_stays : (k d : ℕ) → is_ok (columns f k s).outcome ≡ false → columns f (k + d) s ≡ columns f k s
  unfolding columns
  refused_stays k zero e = ap (λ c. columns f c s) (add-zero k)
  refused_stays k (suc d) e =
      let r = columns f k s in
      ap (λ c. columns f c s) (add-suc k d)
      ∙ ap (column f (k + d)) (refused_stays k d e)
      ∙ ap (λ b. cond b (eliminate f (k + d) (exchange (k + d) r)) r) e

  pub columns-refused : (n k : ℕ) (t u : Factoring) → k < n → t ≡ columns f k s → u ≡ column f k t → is_ok u.outcome ≡ false → u ≡ columns f n s
  columns-refused n k t u h e w err =
      let here : u ≡ columns f (k + 1) s = columns-next k t u e w in
      let far : k + 1 + (n - (k + 1)) ≡ n = omega arith in
      here ∙ sym (refused_stays (k + 1) (n - (k + 1)) (ap (λ x. is_ok x.outcome) (sym here) ∙ err)) ∙ ap (λ c. columns f c s) far

-- ---- what is left of column k after the exchange, case by case; t is the factoring then
module _ (f : Format) (k : ℕ) (t s : Factoring) (e : t ≡ s) where
  abbrev without-pivot : Bool
  without-pivot = is_zero (at (row t.rows k) k)

  abbrev ranged : Bool
  ranged = eliminate_rows_in_range f k (row t.rows k) (drop (k + 1) t.rows)

  pub zero_pivot : without-pivot ≡ true → record { rows = t.rows; order = t.order; outcome = Err (Pivot k) } ≡ eliminate f k s
  zero_pivot z = sym (cond-true without-pivot _ _ z) ∙ ap (eliminate f k) e

  pub out_of_range : without-pivot ≡ false → ranged ≡ false → record { rows = t.rows; order = t.order; outcome = Err (Range k) } ≡ eliminate f k s
  out_of_range z r = sym (cond-false without-pivot _ _ z ∙ cond-false ranged _ _ r) ∙ ap (eliminate f k) e

  pub done : (u : Factoring) → without-pivot ≡ false → ranged ≡ true → u ≡ eliminated f k t → u ≡ eliminate f k s
  done u z r is = is ∙ sym (cond-false without-pivot _ _ z ∙ cond-true ranged _ _ r) ∙ ap (eliminate f k) e

pub ruleset column_steps = (zero_pivot, out_of_range, done)

-- ---- the same slices from one step to the next
pub same-slices : {X : Type 0} (a b c : Held X) → SameSlices a b → SameSlices b c → SameSlices a c
same-slices a b c p q = (q.0 ∙ p.0, q.1 ∙ p.1, q.2 ∙ p.2)

-- ---- the outcome of the columns is never a refusal of the inputs
abbrev pub of_inputs : Result (Unit {0}) FactorRefusal → Bool
of_inputs (Ok u) = false
of_inputs (Err (Input e)) = true
of_inputs (Err (Pivot k)) = false
of_inputs (Err (Range k)) = false

abbrev NotInputs : Factoring → Type 0
NotInputs s = of_inputs s.outcome ≡ false

column-not-inputs : (f : Format) (k : ℕ) (s : Factoring) → NotInputs s → NotInputs (column f k s)
column-not-inputs f k s h =
    let t = exchange k s in
    let p = row t.rows k in
    let below = drop (k + 1) t.rows in
    let with : Matrix → Result (Unit {0}) FactorRefusal → Factoring = λ m r. record { rows = m; order = t.order; outcome = r } in
    let done = with (take (k + 1) t.rows ++ eliminate_rows f k p below) s.outcome in
    let refused = with t.rows (Err (Range k)) in
    cond_both (is_ok s.outcome) (eliminate f k t) s NotInputs
    (λ _.
    cond_both (is_zero (at p k)) (with t.rows (Err (Pivot k))) (cond (eliminate_rows_in_range f k p below) done refused) NotInputs
    (λ _. refl)
    (λ _. cond_both (eliminate_rows_in_range f k p below) done refused NotInputs (λ _. h) (λ _. refl)))
    (λ _. h)

pub columns-not-inputs : (f : Format) (k : ℕ) (s : Factoring) → NotInputs s → NotInputs (columns f k s)
unfolding columns
columns-not-inputs f zero s h = h
columns-not-inputs f (suc k) s h = column-not-inputs f k (columns f k s) (columns-not-inputs f k s h)

pub ruleset loop_steps = (columns-none, columns-next, same-slices)
