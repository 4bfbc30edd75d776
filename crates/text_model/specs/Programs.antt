-- What each program prints for the text that it reads.
use Rattle.std.specs.Prelude.{ℕ, zero, suc, ◌*◌, cond, List, [], ◌∷◌, ◌++◌, length, take, drop, Some, None, Ok, Err, Result, nat_lt}
use Rattle.std.specs.Float.{Format}
use Rattle.element.specs.Matrix.{Row, matrix}
use Rattle.model.specs.Factor.{factored}
use Rattle.model.specs.Solve.{solution}
use Rattle.model.specs.Calls.{flat, factor_outcome, solve_outcome, factors_sound, again_outcome}
use Rattle.text_model.specs.declared.TextRefusal.{TextRefusal}
use Rattle.text_model.specs.declared.TextRefusal.TheVariants.{Form, Count, Factors, Factoring}
use Rattle.text_model.specs.Words.{Word}
use Rattle.text_model.specs.Refusals.{solve_refusal, again_refusal, no_answer}
use Rattle.text_model.specs.Systems.{System, format, numbers_of, system_of, matrix_in, right_side_in}
use Rattle.text_model.specs.Factors.{Factored, factors_of}
use Rattle.text_model.specs.Lines.{answer, factors_text}

-- what a program prints for an outcome
abbrev pub outcome : {A : Type 0} → (A → List ℕ) → Result A TextRefusal → List ℕ
outcome shown (Ok a) = shown a
outcome shown (Err e) = no_answer e

-- ---- solve
abbrev pub solved : System → Result Row TextRefusal
solved s =
    let n = s.size in
    let f = format s.precision in
    let w = factored f (matrix n (matrix_in s)) in
    elim (solve_outcome f n (matrix_in s) (right_side_in s) (n * n) n n) [
      | Ok u ↦ Ok (solution f w.rows w.order (right_side_in s))
      | Err e ↦ Err (solve_refusal e)
    ]

abbrev pub solve_printed : List ℕ → List ℕ
solve_printed t = outcome (λ s. outcome answer (solved s)) (system_of t)

-- ---- factors
abbrev pub factors_of_system : System → Result (List ℕ) TextRefusal
factors_of_system s =
    let n = s.size in
    let f = format s.precision in
    let w = factored f (matrix n (matrix_in s)) in
    elim (factor_outcome f n (matrix_in s) (n * n) n) [
      | Ok u ↦ Ok (factors_text s.precision n w.order (flat w.rows))
      | Err e ↦ Err (Factoring e)
    ]

abbrev pub factors_printed : List ℕ → List ℕ
factors_printed t = outcome (λ s. outcome (λ lines. lines) (factors_of_system s)) (system_of t)

-- ---- again: one right side, and then all of them
abbrev pub solved_again : Format → ℕ → Row → List ℕ → Row → Result Row TextRefusal
solved_again f n lu order b =
    elim (again_outcome f n lu order b n) [ Ok u ↦ Ok (solution f (matrix n lu) order b) | Err e ↦ Err (again_refusal e) ]

-- n words at a time; k is at least how many right sides there are
unfoldable pub answers : ℕ → Format → ℕ → Row → List ℕ → List Word → List ℕ
answers k f n lu order [] = []
answers zero f n lu order (w ∷ ws) = []
answers (suc k) f n lu order (w ∷ ws) =
    elim (numbers_of f (take n (w ∷ ws))) [
      | None ↦ no_answer Form
      | Some b ↦ cond (nat_lt (length b) n) (no_answer Count) (outcome answer (solved_again f n lu order b) ++ answers k f n lu order (drop n (w ∷ ws)))
    ]

abbrev pub answers_to : Factored → List ℕ
answers_to h =
    cond (factors_sound h.size h.lu h.order)
    (answers (length h.rest) (format h.precision) h.size h.lu h.order h.rest)
    (no_answer Factors)

abbrev pub again_printed : List ℕ → List ℕ
again_printed t = outcome answers_to (factors_of t)
