-- What `solve` prints for the lines of a text, or for its refusal.
use Rattle.std.proofs.Common.{◌≡◌, ℕ, List, Ok, Err, Result, refl}
use Rattle.element.specs.Matrix.{Row}
use Rattle.text_model.specs.declared.TextRefusal.{TextRefusal}
use Rattle.text_model.specs.Systems.{Head, System, system_after}
use Rattle.text_model.specs.Lines.{answer}
use Rattle.text_model.specs.Programs.{outcome, solved}
use Rattle.text_calls.specs.Lines.{lines_of, answer_lines, solve_lines, lines_after}

-- the lines, or the line of the refusal
abbrev pub shown : Result (List ℕ) TextRefusal → List ℕ
shown r = outcome (λ text. text) r

answer-shown : (r : Result Row TextRefusal) → shown (elim r [ Ok xs ↦ Ok (answer xs) | Err e ↦ Err e ]) ≡ outcome answer r
answer-shown (Ok xs) = refl
answer-shown (Err e) = refl

system-shown : (r : Result System TextRefusal) → shown (lines_of answer_lines r) ≡ outcome (λ s. outcome answer (solved s)) r
system-shown (Ok s) = answer-shown (solved s)
system-shown (Err e) = refl

pub solve_shown : (r : Result Head TextRefusal) → shown (lines_after solve_lines r) ≡ outcome (λ s. outcome answer (solved s)) (system_after r)
solve_shown (Ok h) = system-shown (system_after (Ok h))
solve_shown (Err e) = refl
