-- The call `factor` case by case: what it answers and what it leaves, from what was found on the way. v is what an element is as a float.
use Rattle.std.proofs.Common.{◌≡◌, ℕ, ◌*◌, ◌≤◌, Bool, true, false, cond, ◌&&◌, T, List, map, length, is_ok, OnOk, Ok, Err, Result, sym, refl, ap, ◌∙◌, ap₂, true≢false, ◌==◌, arith}
use mathlib.Core.Bool.{and-true}
use lib.Ieee.{Float, Format}
use Rattle.std.proofs.lemmas.List.{length-map}
use Rattle.std.proofs.lemmas.Bool.Decides.{nat_tests}
use Rattle.element.specs.declared.refusal.InputRefusal.{InputRefusal}
use Rattle.element.specs.Matrix.{Row, Matrix, all_finite}
use Rattle.element.specs.Multiply.{inputs, size_taken}
use Rattle.element.specs.Promises.{all_fit}
use Rattle.element.proofs.Outcome.{inputs_ok}
use Rattle.model.specs.declared.FactorRefusal.{FactorRefusal}
use Rattle.model.specs.declared.FactorRefusal.TheVariants.{Input}
use Rattle.model.specs.Factor.{columns, up_to, factored}
use Rattle.model.specs.Calls.{flat, factor_inputs, factor_outcome, factor_lu, factor_order}
use Rattle.model.specs.Promises.{Square, FactorsNear, PivotsBounded}
use Rattle.model.proofs.Factored.{factor_theorem}
use Rattle.factor.specs.Slices.{matrix_of, factoring_of}
use Rattle.model.proofs.Slice.{flat-rows_of}
use Rattle.factor.proofs.Flat.{length-matrix}
use Rattle.factor.proofs.Steps.{of_inputs, columns-not-inputs}

-- the columns of a matrix that a slice holds, in the order 0 to n - 1, are its factoring
pub factored-is : {X : Type 0} (v : X → Float) (f : Format) (n : ℕ) (a : List X) → columns f n (factoring_of v n a (up_to n) (Ok tt)) ≡ factored f (matrix_of v n a)
factored-is v f n a = ap (λ k. columns f k (factoring_of v n a (up_to k) (Ok tt))) (sym (length-matrix v n a))

-- so those of a factoring that was begun with a; r is the outcome, and xs and order are what it holds then
pub factored-from : {X : Type 0} (v : X → Float) (f : Format) (n begun size : ℕ) (a start xs : List X) (first order : List ℕ) (r : Result (Unit {0}) FactorRefusal)
    → begun ≡ n → start ≡ a → first ≡ up_to n → size ≡ begun
    → factoring_of v size xs order r ≡ columns f begun (factoring_of v begun start first (Ok tt)) → factoring_of v n xs order r ≡ factored f (matrix_of v n a)
factored-from v f n begun size a start xs first order r b e o s done =
    ap (λ k. factoring_of v k xs order r) (sym (s ∙ b))
    ∙ done
    ∙ ap (λ k. columns f k (factoring_of v k start first (Ok tt))) b
    ∙ ap₂ (λ zs places. columns f n (factoring_of v n zs places (Ok tt))) e o
    ∙ factored-is v f n a

-- a factoring of a matrix is not refused for the inputs
pub factored-inputs : (f : Format) (m : Matrix) (r : Result (Unit {0}) FactorRefusal) (e : InputRefusal) → r ≡ (factored f m).outcome → r ≡ Err (Input e) → ⊥
factored-inputs f m r e is q =
    true≢false (sym (ap of_inputs q) ∙ ap of_inputs is ∙ columns-not-inputs f (length m) (record { rows = m; order = up_to (length m); outcome = Ok tt }) refl)

-- what inputs that are taken have
pub record Fit (n : ℕ) (a : Row) (l o : ℕ) : Type 0 where
  pub size : n ≤ 128
  pub matrix : length a ≡ n * n
  pub factors : l ≡ n * n
  pub places : o ≡ n

pub inputs-fit : (n : ℕ) (a : Row) (l o : ℕ) → Ok tt ≡ factor_inputs n a l o → Fit n a l o
inputs-fit n a l o e = record { size = grind (arith, nat_tests); matrix = grind (arith, nat_tests); factors = grind (arith, nat_tests); places = grind (arith, nat_tests) }

-- tests of two lists of lengths, one after the other
three : (p q r : Bool) → ((p && (q && true)) && (r && true)) ≡ (p && q && r)
three true true r = and-true r
three true false r = refl
three false q r = refl

module _ {X : Type 0} (v : X → Float) (f : Format) (n : ℕ) (a lu : List X) (o : List ℕ) where
  -- what `check_inputs` answers
  pub checked-is : inputs (size_taken n) ((length a == n * n && (length lu == n * n && true)) && (length o == n && true)) (all_finite (map v a) && true) ≡ factor_inputs n (map v a) (length lu) (length o)
  checked-is =
      ap₂ (inputs (size_taken n)) (three (length a == n * n) (length lu == n * n) (length o == n) ∙ ap (λ l. l == n * n && length lu == n * n && length o == n) (sym (length-map a v)))
      (and-true (all_finite (map v a)))

  -- r is the outcome, and lu' and order' are what the outputs hold then
  pub record Answers (r : Result (Unit {0}) FactorRefusal) (lu' : List X) (order' : List ℕ) : Type 0 where
    pub outcome : r ≡ factor_outcome f n (map v a) (length lu) (length o)
    pub factors : map v lu' ≡ factor_lu f n (map v a) (map v lu) (length o)
    pub order : order' ≡ factor_order f n (map v a) (length lu) o

  -- the columns were worked through
  pub answered : (r : Result (Unit {0}) FactorRefusal) (lu' : List X) (order' : List ℕ) → Ok tt ≡ factor_inputs n (map v a) (length lu) (length o)
      → length lu' ≡ n * n → factoring_of v n lu' order' r ≡ factored f (matrix_of v n a) → Answers r lu' order'
  answered r lu' order' is long e =
      let s = factored f (matrix_of v n a) in
      let same = is ∙ ap (λ k. factor_inputs n (map v a) k (length o)) (sym (length-map lu v)) in
      record {
        outcome = ap (λ t. t.outcome) e ∙ ap (λ z. elim z [ Ok u ↦ s.outcome | Err x ↦ Err (Input x) ]) is;
        factors =
            sym (flat-rows_of n n (map v lu') (length-map lu' v ∙ long))
            ∙ ap (λ t. flat t.rows) e
            ∙ ap (λ z. cond (is_ok z) (flat s.rows) (map v lu)) same;
        order = ap (λ t. t.order) e ∙ ap (λ z. cond (is_ok z) s.order o) is;
      }

  -- what an answer is worth
  pub near : (r : Result (Unit {0}) FactorRefusal) (lu' : List X) (order' : List ℕ) → Ok tt ≡ factor_inputs n (map v a) (length lu) (length o) → T (all_fit f (map v a))
      → length lu' ≡ n * n → factoring_of v n lu' order' r ≡ factored f (matrix_of v n a)
      → OnOk r (FactorsNear f n (map v a) (map v lu') order' × PivotsBounded n (map v lu') order')
  near (Err x) lu' order' is fit long e = tt
  near (Ok u) lu' order' is fit long e =
      let s = factored f (matrix_of v n a) in
      let lengths = length (map v a) == n * n && length lu == n * n && length o == n in
      let ok = inputs_ok (size_taken n) lengths (all_finite (map v a)) (sym is) in
      let square : Square f n (map v a) = record { size = ok.0; long = (inputs-fit n (map v a) (length lu) (length o) is).matrix; finite = ok.2; fit = fit } in
      let rows : map v lu' ≡ flat s.rows = sym (flat-rows_of n n (map v lu') (length-map lu' v ∙ long)) ∙ ap (λ t. flat t.rows) e in
      let order : order' ≡ s.order = ap (λ t. t.order) e in
      rw (rows, order) (factor_theorem f n (map v a) square (sym (ap (λ t. t.outcome) e)))
