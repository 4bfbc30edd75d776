-- `again`, on the printed factors of a system and its right side after them, prints what `solve` prints.
use Rattle.std.proofs.Common.{◌≡◌, ℕ, ◌*◌, ◌<◌, ◌≤◌, Bool, true, false, cond, ◌&&◌, ltb, leb, List, [], ◌∷◌, ◌++◌, length, get_or, drop, Some, None, Ok, Err, Option, Result, sym, refl, ap, ◌∙◌, subst, ap₂, inl, inr, arith, leb→le}
use lib.Ieee.{Format}
use lib.Ieee.Bits.{is_true}
use lib.Ieee.Fits.{and_l, and_r}
use Rattle.std.proofs.lemmas.List.{append-nil, take_all, drop_all, get_or_past}
use Rattle.std.proofs.lemmas.Option.{MatchOption-at_some}
use Rattle.std.proofs.lemmas.Bool.{cases_lt, eq-eqb, le-ltb}
use Rattle.element.specs.declared.refusal.InputRefusal.{InputRefusal}
use Rattle.element.specs.Matrix.{Row, Matrix, matrix, all_finite}
use Rattle.element.specs.Multiply.{inputs}
use Rattle.element.specs.Refusals.{outcome_number}
use Rattle.element.proofs.Outcome.{err_not_ok}
use Rattle.model.specs.declared.FactorRefusal.{FactorRefusal}
use Rattle.model.specs.declared.FactorRefusal.TheVariants as factoring
use Rattle.model.specs.declared.AgainRefusal.{AgainRefusal}
use Rattle.model.specs.Refusals.{solve_number, again_number}
use Rattle.model.specs.Factor.{Factoring, factored}
use Rattle.model.specs.Solve.{solution, solution_in_range}
use Rattle.model.specs.Calls.{flat, factor_inputs, factor_outcome, solve_inputs, solve_outcome, again_inputs, factors_sound, again_outcome}
use Rattle.model.specs.Promises.{Square, RightSide}
use Rattle.model.proofs.Slice.{SquareRows, matrix-flat, flat-square}
use Rattle.model.proofs.Factored.{factored_state}
use Rattle.model.proofs.Digits.{solve_answer, again_answer}
use Rattle.model.proofs.Theorems as Theorems
use Rattle.text_model.specs.declared.TextRefusal.{TextRefusal}
use Rattle.text_model.specs.declared.TextRefusal.TheVariants.{Form, Count, Factors, Factoring as Refactoring}
use Rattle.text_model.specs.Words.{Word, words_of}
use Rattle.text_model.specs.Refusals.{again_refusal, no_answer}
use Rattle.text_model.specs.Systems.{longest, format, numbers_of, matrix_in, right_side_in}
use Rattle.text_model.specs.Factors.{factors_of}
use Rattle.text_model.specs.Lines.{answer, factors_text}
use Rattle.text_model.specs.Programs.{outcome, solved, solved_again, answers, answers_to}
use Rattle.text_model.specs.Promises.{AgainAsSolvePrinted}
use Rattle.text_model.proofs.ReadBack.{factors-read-back}
use Rattle.text_model.proofs.Fit.{Values, given_numbers}
use Rattle.text_model.proofs.Taken.{system-taken}
use Rattle.text_model.proofs.Stable.{answered}

-- ---- outcomes
abbrev factors_answer : List ℕ → Result (Unit {0}) FactorRefusal → Result (List ℕ) TextRefusal
factors_answer text o = elim o [ Ok u ↦ Ok text | Err e ↦ Err (Refactoring e) ]

factors_from : (o : Result (Unit {0}) FactorRefusal) (text given : List ℕ) → factors_answer text o ≡ Ok given → (o ≡ Ok tt) × (text ≡ given)
factors_from (Ok u) text given h = (refl, cc)
factors_from (Err e) text given h = absurd (err_not_ok h)

abbrev factor_answer : Result (Unit {0}) InputRefusal → Result (Unit {0}) FactorRefusal → Result (Unit {0}) FactorRefusal
factor_answer i o = elim i [ Ok u ↦ o | Err e ↦ Err (factoring.Input e) ]

factor_from : (i : Result (Unit {0}) InputRefusal) (o : Result (Unit {0}) FactorRefusal) → factor_answer i o ≡ Ok tt → o ≡ Ok tt
factor_from (Ok u) o h = h
factor_from (Err e) o h = absurd (err_not_ok h)

abbrev again_answered : Row → Result (Unit {0}) AgainRefusal → Result Row TextRefusal
again_answered x o = elim o [ Ok u ↦ Ok x | Err e ↦ Err (again_refusal e) ]

-- factors that are refused have a number that `solve` after its factoring does not have
sound_from : (sound r q : Bool) → outcome_number again_number (again_answer (Ok tt) sound r) ≡ outcome_number solve_number (solve_answer (Ok tt) (Ok tt) q) → sound ≡ true
sound_from true r q h = refl
sound_from false r true h = absurd (omega (arith, h))
sound_from false r false h = absurd (omega (arith, h))

alike : (r : Bool) (x : Row) → again_answered x (again_answer (Ok tt) true r) ≡ answered x (solve_answer (Ok tt) (Ok tt) r)
alike true x = refl
alike false x = refl

-- ---- the factors of a matrix whose factoring answered, and a right side
module _ (f : Format) (n : ℕ) (a b : Row) (square : Square f n a) (right : RightSide f n b) (ok : (factored f (matrix n a)).outcome ≡ Ok tt) where
  abbrev w : Factoring
  w = factored f (matrix n a)

  abbrev order : List ℕ
  order = w.order

  abbrev lu : Row
  lu = flat w.rows

  rows : SquareRows f n w.rows
  rows = (Theorems.factors-square f n a square ok).0

  factors-square : Square f n lu
  factors-square = flat-square rows square.size

  places : length order ≡ n
  places = (factored_state f n a square ok).shape.places

  places-small : (i : ℕ) → get_or order i 0 ≤ 65535
  places-small i =
      let few = leb→le n 128 (and_r (leb 1 n) (leb n 128) square.size) in
      elim (cases_lt i n) [
        | inl h ↦ omega (arith, (factored_state f n a square ok).shape.once.below i h)
        | inr h ↦ omega (arith, get_or_past order i 0 (rw places h))
      ]

  solve_inputs_lem : solve_inputs n a b (n * n) n n ≡ Ok tt
  solve_inputs_lem = λ i.
      inputs (is_true _ square.size i)
      (eq-eqb (length a) (n * n) square.long i && eq-eqb (length b) n right.long i && eq-eqb (n * n) (n * n) refl i && eq-eqb n n refl i && eq-eqb n n refl i)
      (is_true (all_finite a) square.finite i && is_true (all_finite b) right.finite i)

  again_inputs_lem : again_inputs n lu order b n ≡ Ok tt
  again_inputs_lem = λ i.
      inputs (is_true _ square.size i)
      (eq-eqb (length lu) (n * n) factors-square.long i && eq-eqb (length order) n places i && eq-eqb (length b) n right.long i && eq-eqb n n refl i)
      (is_true (all_finite b) right.finite i)

  abbrev range : Matrix → Bool
  range m = solution_in_range f m order b

  solve_is : solve_outcome f n a b (n * n) n n ≡ solve_answer (Ok tt) (Ok tt) (range w.rows)
  solve_is = ap₂ (λ i o. solve_answer i o (range w.rows)) solve_inputs_lem ok

  again_is : again_outcome f n lu order b n ≡ again_answer (Ok tt) (factors_sound n lu order) (range (matrix n lu))
  again_is = ap (λ i. again_answer i (factors_sound n lu order) (range (matrix n lu))) again_inputs_lem

  sound : factors_sound n lu order ≡ true
  sound =
      let numbers : outcome_number again_number (again_outcome f n lu order b n) ≡ outcome_number solve_number (solve_outcome f n a b (n * n) n n) =
      subst (λ m. outcome_number again_number (again_outcome f n lu order b m) ≡ outcome_number solve_number (solve_outcome f n a b (n * n) n m)) right.long
      (Theorems.again_as_solve f n a b b square ok).0 in
      sound_from (factors_sound n lu order) (range (matrix n lu)) (range w.rows)
      (sym (ap (outcome_number again_number) again_is) ∙ numbers ∙ ap (outcome_number solve_number) solve_is)

  solved_again_lem : solved_again f n lu order b ≡ answered (solution f w.rows order b) (solve_outcome f n a b (n * n) n n)
  solved_again_lem =
      ap (again_answered (solution f (matrix n lu) order b)) (again_is ∙ ap (λ c. again_answer (Ok tt) c (range (matrix n lu))) sound)
      ∙ ap (λ m. again_answered (solution f m order b) (again_answer (Ok tt) true (range m))) (matrix-flat rows)
      ∙ alike (range w.rows) (solution f w.rows order b)
      ∙ ap (answered (solution f w.rows order b)) (sym solve_is)

-- ---- one right side
module _ (f : Format) (n : ℕ) (lu : Row) (order : List ℕ) (b : Row) (some : 0 < n) (long : length b ≡ n) where
  abbrev one_answer : Option Row → List ℕ → List ℕ
  one_answer o rest = elim o [
    | None ↦ no_answer Form
    | Some b ↦ cond (ltb (length b) n) (no_answer Count) (outcome answer (solved_again f n lu order b) ++ rest)
  ]

  answers_one : (ws : List Word) → length ws ≡ n → numbers_of f ws ≡ Some b → answers (length ws) f n lu order ws ≡ outcome answer (solved_again f n lu order b)
  unfolding answers
  answers_one [] count e = absurd (omega arith)
  answers_one (w ∷ ws) count e =
      let shown = outcome answer (solved_again f n lu order b) in
      let rest = answers (length ws) f n lu order (drop n (w ∷ ws)) in
      ap (λ o. one_answer o rest) (ap (numbers_of f) (take_all n (w ∷ ws) (omega arith)) ∙ e)
      ∙ ap (λ c. cond c (no_answer Count) (shown ++ rest)) (le-ltb (length b) n (omega arith))
      ∙ ap (λ l. shown ++ answers (length ws) f n lu order l) (drop_all n (w ∷ ws) (omega arith))
      ∙ append-nil shown

-- ---- the texts
pub again_as_solve_printed : AgainAsSolvePrinted
again_as_solve_printed t factors r s e is numbers short =
    let f = format s.precision in
    let n = s.size in
    let a = matrix_in s in
    let b = right_side_in s in
    let w = factored f (matrix n a) in
    let lu = flat w.rows in
    let given = system-taken t s e in
    let square = given.square in
    let right = given.right in
    let text = factors_text s.precision n w.order lu in
    let (done, same) = factors_from (factor_outcome f n a (n * n) n) text factors is in
    let ok : w.outcome ≡ Ok tt = factor_from (factor_inputs n a (n * n) n) w.outcome done in
    let some : 0 < n = leb→le 1 n (and_l (leb 1 n) (leb n 128) square.size) in
    let count : length (words_of r) ≡ n = sym (MatchOption-at_some (Unit {0}) (Values f (words_of r)) b numbers (given_numbers f (words_of r))).count ∙ right.long in
    let read = factors-read-back s.precision n w.order lu r (factors-square f n a b square right ok) (places f n a b square right ok)
    (places-small f n a b square right ok) (subst (λ l. length (l ++ r) ≤ longest) (sym same) short) in
    ap (outcome answers_to) (ap (λ l. factors_of (l ++ r)) (sym same) ∙ read)
    ∙ ap (λ c. cond c (answers (length (words_of r)) f n lu w.order (words_of r)) (no_answer Factors)) (sound f n a b square right ok)
    ∙ answers_one f n lu w.order b some right.long (words_of r) count numbers
    ∙ ap (outcome answer) (solved_again_lem f n a b square right ok)
    ∙ sym (ap (outcome (λ s. outcome answer (solved s))) e)
