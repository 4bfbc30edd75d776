-- The right sides after factors, read and answered one by one.
use Rattle.std.proofs.Common.{◌≡◌, ℕ, zero, suc, ◌<◌, ◌≤◌, min, true, false, cond, ltb, List, [], ◌∷◌, ◌++◌, length, take, drop, is_ok, Some, None, Ok, Err, Option, Result, sym, refl, ap, ◌∙◌, subst, true≢false, append_assoc, append-nil, arith, length-drop, length-take}
use lib.Ieee.{Format}
use lib.Seq.{take-nil}
use Rattle.std.proofs.lemmas.Bool.{lt-ltb, le-ltb}
use Rattle.element.specs.Matrix.{Row, matrix}
use Rattle.model.specs.declared.AgainRefusal.{AgainRefusal}
use Rattle.model.specs.Solve.{solution}
use Rattle.model.specs.Calls.{again_outcome, again_x}
use Rattle.text_model.specs.declared.TextRefusal.{TextRefusal}
use Rattle.text_model.specs.declared.TextRefusal.TheVariants.{Form, Count}
use Rattle.text_model.specs.Words.{Word}
use Rattle.text_model.specs.Refusals.{again_refusal, no_answer}
use Rattle.text_model.specs.Systems.{all_of, numbers_of}
use Rattle.text_model.specs.Lines.{answer}
use Rattle.text_model.specs.Programs.{outcome, solved_again, answers}
use Rattle.text_model.proofs.Fit.{Given, Values, given_numbers}
use Rattle.system_text.specs.Read.{formed}
use Rattle.system_text.proofs.Counted.{formed-some, formed-none}
use Rattle.text_calls.specs.Again.{all_answers, AnswersNext}

-- ---- one right side, with the call's outcome
module _ (f : Format) (n : ℕ) (lu : Row) (order : List ℕ) (b : Row) where
  abbrev x_of : Row
  x_of = solution f (matrix n lu) order b

  abbrev shown : Result (Unit {0}) AgainRefusal → Result Row TextRefusal
  shown (Ok u) = Ok x_of
  shown (Err e) = Err (again_refusal e)

  pub again_solved : (m : ℕ) (x y : Row) → m ≡ n → length x ≡ n → Ok tt ≡ again_outcome f n lu order b m → y ≡ again_x f n lu order b x → solved_again f n lu order b ≡ Ok y
  again_solved m x y is long o e =
      let ok = sym (o ∙ ap (again_outcome f n lu order b) is) in
      ap shown ok ∙ sym (ap Ok (e ∙ ap (λ k. cond (is_ok (again_outcome f n lu order b k)) x_of x) long ∙ ap (λ r. cond (is_ok r) x_of x) ok))

-- ---- as many numbers as words are taken
numbers_count : (f : Format) (n : ℕ) (ws : List Word) (b : Row) → formed (numbers_of f (take n ws)) ≡ Ok b → length b ≡ min n (length ws)
numbers_count f n ws b h =
    (subst (λ o. Given o (Values f (take n ws))) (formed-some (numbers_of f (take n ws)) b h) (given_numbers f (take n ws))).count ∙ length-take n ws

pub enough_numbers : (f : Format) (n : ℕ) (ws : List Word) (b : Row) → formed (numbers_of f (take n ws)) ≡ Ok b → n ≤ length b → length b ≡ n
enough_numbers f n ws b h l = omega (arith, numbers_count f n ws b h)

-- ---- the lines for words, by those for the words after the next right side
module _ (f : Format) (n : ℕ) (lu : Row) (order : List ℕ) (some : 1 ≤ n) where
  abbrev all : List Word → List ℕ
  all ws = all_answers f n lu order ws

  -- what is printed for the numbers of a right side, and after it
  abbrev one : Option Row → List ℕ → List ℕ
  one o rest = elim o [
    | None ↦ no_answer Form
    | Some b ↦ cond (ltb (length b) n) (no_answer Count) (outcome answer (solved_again f n lu order b) ++ rest)
  ]

  enough : (k j : ℕ) (ws : List Word) → length ws ≤ k → length ws ≤ j → answers k f n lu order ws ≡ answers j f n lu order ws
  unfolding answers
  enough k j [] h i = refl
  enough zero j (w ∷ ws) h i = absurd (omega arith)
  enough (suc k) zero (w ∷ ws) h i = absurd (omega arith)
  enough (suc k) (suc j) (w ∷ ws) h i =
      let less = length-drop n (w ∷ ws) in
      ap (one (numbers_of f (take n (w ∷ ws)))) (enough k j (drop n (w ∷ ws)) (omega arith) (omega arith))

  all_none : (ws : List Word) → length ws ≡ 0 → all ws ≡ []
  unfolding answers
  all_none [] h = refl
  all_none (w ∷ ws) h = absurd (omega arith)

  all-next : (ws : List Word) → 0 < length ws → all ws ≡ one (numbers_of f (take n ws)) (all (drop n ws))
  unfolding answers
  all-next [] h = absurd (omega arith)
  all-next (w ∷ ws) h =
      let less = length-drop n (w ∷ ws) in
      ap (one (numbers_of f (take n (w ∷ ws)))) (enough (length ws) (length (drop n (w ∷ ws))) (drop n (w ∷ ws)) (omega arith) (omega arith))

  some_words : (ws : List Word) → numbers_of f (take n ws) ≡ None → 0 < length ws
  unfolding all_of
  some_words [] h = let e = sym (ap (numbers_of f) (take-nil {A = Word} n)) ∙ h in let z : ◌≡◌ {A = ℕ} 0 1 = cc in absurd (omega arith)
  some_words (w ∷ ws) h = omega arith

  module _ (ws vs : List Word) (before after : List ℕ) where
    -- there is nothing to answer after this
    ended : after ≡ before ++ all ws → AnswersNext f n lu order ws vs before after false
    ended e = record { lines = append-nil after ∙ e; fewer = λ t. absurd (true≢false (sym t)) }

    pub none_left : (b : Row) → formed (numbers_of f (take n ws)) ≡ Ok b → length b ≡ 0 → after ≡ before → AnswersNext f n lu order ws vs before after false
    none_left b h z e =
        let none : length ws ≡ 0 = omega (arith, numbers_count f n ws b h) in
        ended (e ∙ sym (append-nil before) ∙ ap (λ l. before ++ l) (sym (all_none ws none)))

    pub too_few : (b : Row) → formed (numbers_of f (take n ws)) ≡ Ok b → (length b ≡ 0 → ⊥) → length b < n → after ≡ before ++ no_answer Count → AnswersNext f n lu order ws vs before after false
    too_few b h nz l e =
        let words : 0 < length ws = omega (arith, numbers_count f n ws b h) in
        ended (e ∙ ap (λ l. before ++ l) (sym (all-next ws words
        ∙ ap (λ o. one o (all (drop n ws))) (formed-some (numbers_of f (take n ws)) b h)
        ∙ ap (λ t. cond t (no_answer Count) (outcome answer (solved_again f n lu order b) ++ all (drop n ws))) (lt-ltb (length b) n l))))

    pub no_number : (e : TextRefusal) → formed (numbers_of f (take n ws)) ≡ Err e → after ≡ before ++ no_answer e → AnswersNext f n lu order ws vs before after false
    no_number e h is =
        let p = formed-none (numbers_of f (take n ws)) e h in
        ended (is ∙ ap (λ l. before ++ l) (ap no_answer p.1 ∙ sym (all-next ws (some_words ws p.0) ∙ ap (λ o. one o (all (drop n ws))) p.0)))

    pub answered : (b : Row) → formed (numbers_of f (take n ws)) ≡ Ok b → n ≤ length b → vs ≡ drop n ws → after ≡ before ++ outcome answer (solved_again f n lu order b) → AnswersNext f n lu order ws vs before after true
    answered b h l rest e =
        let count = numbers_count f n ws b h in
        let words : 0 < length ws = omega arith in
        let text = outcome answer (solved_again f n lu order b) in
        record {
          lines = ap (λ v. after ++ all v) rest ∙ ap (λ v. v ++ all (drop n ws)) e ∙ append_assoc before text (all (drop n ws))
              ∙ ap (λ l. before ++ l) (sym (all-next ws words
              ∙ ap (λ o. one o (all (drop n ws))) (formed-some (numbers_of f (take n ws)) b h)
              ∙ ap (λ t. cond t (no_answer Count) (text ++ all (drop n ws))) (le-ltb (length b) n l)));
          fewer = λ _. omega (arith, ap length rest, length-drop n ws);
        }
