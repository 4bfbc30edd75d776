-- A printed answer, read back, is one that the main promise is about.
use Rattle.std.proofs.Common.{◌≡◌, ℕ, ◌+◌, ◌*◌, Bool, true, false, T, List, [], ◌∷◌, map, get_or, take, drop, Ok, Err, codes, Result, refl, ap, ◌∙◌, subst, arith}
use lib.Ieee.{Format, div, fits}
use lib.Ieee.Fits.{and_i, div-fits}
use Rattle.element.specs.declared.refusal.InputRefusal.{InputRefusal}
use Rattle.std.proofs.lemmas.List.Elements.{All-from_recursion}
use Rattle.element.specs.Matrix.{Row, Matrix, at, matrix, all_finite}
use Rattle.element.specs.Products.{subtract_products}
use Rattle.element.specs.Promises.{all_fit}
use Rattle.element.proofs.Outcome.{err_not_ok}
use Rattle.model.specs.declared.FactorRefusal.{FactorRefusal}
use Rattle.model.specs.declared.SolveRefusal.{SolveRefusal}
use Rattle.model.specs.Factor.{Factoring, factored}
use Rattle.model.specs.Solve.{forward, backward, permuted, solution, solution_in_range}
use Rattle.model.specs.Calls.{flat, solve_inputs, solve_outcome}
use Rattle.model.specs.Promises.{SolveBackwardStable}
use Rattle.model.proofs.Digits.{solve_answer}
use Rattle.model.proofs.Theorems.{solve_theorem}
use Rattle.number_text.specs.Printed.{printed}
use Rattle.text_model.specs.declared.TextRefusal.{TextRefusal}
use Rattle.text_model.specs.Words.{separator, words_of}
use Rattle.text_model.specs.Refusals.{solve_refusal, no_answer}
use Rattle.text_model.specs.Systems.{System, format, system_of, matrix_in, right_side_in}
use Rattle.text_model.specs.Lines.{number_lines, answer}
use Rattle.text_model.specs.Programs.{outcome, solved}
use Rattle.text_model.specs.Promises.{StableAnswer, PrintedAnswersStable}
use Rattle.text_model.proofs.Words.{IsWord, words_word, words-number_lines}
use Rattle.text_model.proofs.Printed.{printed-words, printed_numbers}
use Rattle.text_model.proofs.Taken.{Taken, system-taken}

-- ---- `no answer` is no answer
refused : (e : TextRefusal) → take 6 (no_answer e) ≡ codes "answer" → ⊥
refused e h = let z : ◌≡◌ {A = ℕ} 110 97 = ap (λ l. get_or l 0 0) h in omega arith

-- ---- what an answer of `solve` tells
abbrev pub answered : Row → Result (Unit {0}) SolveRefusal → Result Row TextRefusal
answered x o = elim o [ Ok u ↦ Ok x | Err e ↦ Err (solve_refusal e) ]

answer-is : (o : Result (Unit {0}) SolveRefusal) (x y : Row) → answered x o ≡ Ok y → (o ≡ Ok tt) × (x ≡ y)
answer-is (Ok u) x y h = (refl, cc)
answer-is (Err e) x y h = absurd (err_not_ok h)

answer_from : (i : Result (Unit {0}) InputRefusal) (o : Result (Unit {0}) FactorRefusal) (r : Bool) → solve_answer i o r ≡ Ok tt → (o ≡ Ok tt) × T r
answer_from (Ok u) (Ok v) true h = (refl, tt)
answer_from (Ok u) (Ok v) false h = absurd (err_not_ok h)
answer_from (Ok u) (Err e) r h = absurd (err_not_ok h)
answer_from (Err e) o r h = absurd (err_not_ok h)

-- every entry of a solution is a quotient, so a value of the format
solution-fit : (f : Format) (i : ℕ) (m : Matrix) (ys : Row) → T (all_fit f (backward f i m ys))
unfolding backward all_fit
solution-fit f i [] ys = tt
solution-fit f i (r ∷ rs) [] = tt
solution-fit f i (r ∷ rs) (y ∷ ys) =
    let xs = backward f (i + 1) rs ys in
    let x = div f (subtract_products f y (drop (i + 1) r) xs) (at r i) in
    and_i (fits f x) (all_fit f xs) (div-fits f (subtract_products f y (drop (i + 1) r) xs) (at r i)) (solution-fit f (i + 1) rs ys)

-- ---- the answer x of the system s
module _ (s : System) (given : Taken s) (x : Row) (is : solved s ≡ Ok x) where
  abbrev f : Format
  f = format s.precision

  abbrev n : ℕ
  n = s.size

  abbrev w : Factoring
  w = factored f (matrix n (matrix_in s))

  outcome-is : (solve_outcome f n (matrix_in s) (right_side_in s) (n * n) n n ≡ Ok tt) × (solution f w.rows w.order (right_side_in s) ≡ x)
  outcome-is = answer-is (solve_outcome f n (matrix_in s) (right_side_in s) (n * n) n n) (solution f w.rows w.order (right_side_in s)) x is

  stable : SolveBackwardStable f n (matrix_in s) (right_side_in s) (flat w.rows) w.order x
  stable =
      let (ok, range) = answer_from (solve_inputs n (matrix_in s) (right_side_in s) (n * n) n n) w.outcome (solution_in_range f w.rows w.order (right_side_in s)) outcome-is.0 in
      subst (SolveBackwardStable f n (matrix_in s) (right_side_in s) (flat w.rows) w.order) outcome-is.1
      (solve_theorem f n (matrix_in s) (right_side_in s) given.square given.right ok range)

  fit : T (all_fit f x)
  fit = subst (λ z. T (all_fit f z)) outcome-is.1 (solution-fit f 0 w.rows (forward f w.rows (permuted (right_side_in s) w.order) []))

-- ---- the printed words
answer_word : IsWord (codes "answer")
answer_word = record { some = omega arith; solid = All-from_recursion (λ b. separator b ≡ false) (codes "answer") (refl, (refl, (refl, (refl, (refl, (refl, tt)))))) }

words-answer : (x : Row) → T (all_finite x) → words_of (answer x) ≡ codes "answer" ∷ map printed x
words-answer x t = words_word (codes "answer") 10 (number_lines x) answer_word refl ∙ ap (λ ws. codes "answer" ∷ ws) (words-number_lines x (printed-words x t))

module _ (t : List ℕ) where
  abbrev shown : System → List ℕ
  shown s = outcome answer (solved s)

  answer-stable : (s : System) → system_of t ≡ Ok s → (x : Row) → solved s ≡ Ok x → StableAnswer t
  answer-stable s e x is =
      let given = system-taken t s e in
      let good = stable s given x is in
      record {
        system = s;
        read = e;
        words = map printed x;
        printed = ap words_of (ap (outcome shown) e ∙ ap (outcome answer) is) ∙ words-answer x good.finite;
        x = x;
        read_back = printed_numbers (format s.precision) x good.finite (fit s given x is);
        stable = good;
      }

  by_answer : (s : System) → system_of t ≡ Ok s → (r : Result Row TextRefusal) → solved s ≡ r → take 6 (outcome answer r) ≡ codes "answer" → StableAnswer t
  by_answer s e (Ok x) is h = answer-stable s e x is
  by_answer s e (Err d) is h = absurd (refused d h)

  by-system : (r : Result System TextRefusal) → system_of t ≡ r → take 6 (outcome shown r) ≡ codes "answer" → StableAnswer t
  by-system (Ok s) e h = by_answer s e (solved s) refl h
  by-system (Err d) e h = absurd (refused d h)

pub printed-answers-stable : PrintedAnswersStable
printed-answers-stable t h = by-system t (system_of t) refl h
