-- The call `multiply` case by case: what it answers and what it leaves, from what was found on the way. v is what an element is as a float.
use Rattle.std.proofs.Common.{◌≡◌, ℕ, ◌*◌, ◌≤◌, Bool, true, false, cond, ◌&&◌, T, eqb, leb, List, map, length, is_ok, Ok, Err, Result, sym, refl, ap, ap₂, ◌∙◌, ◌==◌, eqb→eq, leb→le}
use lib.Ieee.Fits.{and_l, and_r}
use lib.Ieee.{Float, Format}
use Rattle.std.proofs.lemmas.List.{length-map}
use Rattle.std.proofs.lemmas.Bool.{false≢true}
use Rattle.element.specs.declared.refusal.InputRefusal.{InputRefusal}
use Rattle.element.specs.declared.refusal.MultiplyRefusal.{MultiplyRefusal}
use Rattle.element.specs.declared.refusal.MultiplyRefusal.TheVariants.{Range}
use Rattle.element.specs.Matrix.{Row, matrix, all_finite}
use Rattle.element.specs.Products.{sum_rows, rows_in_range}
use Rattle.element.specs.Multiply.{size_taken, lengths_fit, inputs, multiplied, multiply_inputs, multiply_outcome, multiply_output}

-- tests of a list, one after the other
two : (p q : Bool) → (p && (q && true)) ≡ (p && q)
two true true = refl
two true false = refl
two false q = refl

three : (p q r : Bool) → ((p && true) && (q && (r && true))) ≡ (p && q && r)
three true q r = two q r
three false q r = refl

module _ {X : Type 0} (v : X → Float) (f : Format) (n : ℕ) (a x y : List X) where
  -- what `check_inputs` answers
  abbrev pub checked : Result (Unit {0}) InputRefusal
  checked = inputs (size_taken n) (lengths_fit n (length a) (length x) (length y)) (all_finite (map v a) && all_finite (map v x))

  pub checked-is : inputs (size_taken n) ((length a == n * n && true) && (length x == n && (length y == n && true))) (all_finite (map v a) && (all_finite (map v x) && true)) ≡ checked
  checked-is = ap₂ (inputs (size_taken n)) (three (length a == n * n) (length x == n) (length y == n)) (two (all_finite (map v a)) (all_finite (map v x)))

  checked-same : multiply_inputs n (map v a) (map v x) (length y) ≡ checked
  checked-same = rw (length-map a v, length-map x v)

  -- o is the outcome, and `left` what the output holds then
  pub record Answers (o : Result (Unit {0}) MultiplyRefusal) (left : List X) : Type 0 where
    pub outcome : o ≡ multiply_outcome f n (map v a) (map v x) (length y)
    pub output : map v left ≡ multiply_output f n (map v a) (map v x) (map v y)

  pub answers : (o : Result (Unit {0}) MultiplyRefusal) (left : List X) → multiplied f n (map v a) (map v x) checked ≡ o
      → map v left ≡ cond (is_ok o) (sum_rows f (matrix n (map v a)) (map v x)) (map v y) → Answers o left
  answers o left e l =
      let is : multiply_outcome f n (map v a) (map v x) (length y) ≡ o = ap (multiplied f n (map v a) (map v x)) checked-same ∙ e in
      let leaves : multiply_output f n (map v a) (map v x) (map v y) ≡ cond (is_ok o) (sum_rows f (matrix n (map v a)) (map v x)) (map v y) =
      ap (λ m. cond (is_ok (multiply_outcome f n (map v a) (map v x) m)) (sum_rows f (matrix n (map v a)) (map v x)) (map v y)) (length-map y v)
      ∙ ap (λ r. cond (is_ok r) (sum_rows f (matrix n (map v a)) (map v x)) (map v y)) is in
      record { outcome = sym is; output = l ∙ sym leaves }

-- ---- what an answer tells
pub err_not_ok : {X E : Type 0} {e : E} {x : X} → Err e ≡ Ok x → ⊥
err_not_ok p = false≢true (ap is_ok p)

pub inputs_ok : (s l e : Bool) → inputs s l e ≡ Ok tt → T s × T l × T e
inputs_ok true true true p = (tt, tt, tt)
inputs_ok true true false p = absurd (err_not_ok p)
inputs_ok true false e p = absurd (err_not_ok p)
inputs_ok false l e p = absurd (err_not_ok p)

pub range_ok : {E : Type 0} (e : E) (b : Bool) → ◌≡◌ {A = Result (Unit {0}) E} (cond b (Ok tt) (Err e)) (Ok tt) → T b
range_ok e true p = tt
range_ok e false p = absurd (err_not_ok p)

pub record Answered (f : Format) (n : ℕ) (a x : Row) (m : ℕ) : Type 0 where
  pub size : n ≤ 128
  pub matrix-long : length a ≡ n * n
  pub vector_long : length x ≡ n
  pub output-long : m ≡ n
  pub range : T (rows_in_range f (matrix n a) x)

answered-inputs : (f : Format) (n : ℕ) (a x : Row) (m : ℕ) → multiply_inputs n a x m ≡ Ok tt → T (rows_in_range f (matrix n a) x) → Answered f n a x m
answered-inputs f n a x m p t =
    let ok = inputs_ok (size_taken n) (lengths_fit n (length a) (length x) m) (all_finite a && all_finite x) p in
    let lengths = ok.1 in
    let first = and_l (eqb (length a) (n * n) && eqb (length x) n) (eqb m n) lengths in
    record {
      size = leb→le n 128 (and_r (leb 1 n) (leb n 128) ok.0);
      matrix-long = eqb→eq (length a) (n * n) (and_l (eqb (length a) (n * n)) (eqb (length x) n) first);
      vector_long = eqb→eq (length x) n (and_r (eqb (length a) (n * n)) (eqb (length x) n) first);
      output-long = eqb→eq m n (and_r (eqb (length a) (n * n) && eqb (length x) n) (eqb m n) lengths);
      range = t;
    }

pub answered : (f : Format) (n : ℕ) (a x : Row) (m : ℕ) → multiply_outcome f n a x m ≡ Ok tt → Answered f n a x m
answered f n a x m = go (multiply_inputs n a x m) refl
  where
    go : (r : Result (Unit {0}) InputRefusal) → multiply_inputs n a x m ≡ r → multiplied f n a x r ≡ Ok tt → Answered f n a x m
    go (Ok u) e p = answered-inputs f n a x m e (range_ok Range (rows_in_range f (matrix n a) x) p)
    go (Err i) e p = absurd (err_not_ok p)
