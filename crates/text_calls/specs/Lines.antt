-- What each program prints, with its refusals apart.
use Rattle.std.specs.Prelude.{ℕ, List, Ok, Err, Result}
use Rattle.text_model.specs.declared.TextRefusal.{TextRefusal}
use Rattle.text_model.specs.Systems.{Head, System, system_after}
use Rattle.text_model.specs.Lines.{answer}
use Rattle.text_model.specs.Programs.{solved, factors_of_system}

-- the lines of a system that is read, or the refusal of either
abbrev pub lines_of : (System → Result (List ℕ) TextRefusal) → Result System TextRefusal → Result (List ℕ) TextRefusal
lines_of lines (Ok s) = lines s
lines_of lines (Err e) = Err e

abbrev pub answer_lines : System → Result (List ℕ) TextRefusal
answer_lines s = elim (solved s) [ Ok xs ↦ Ok (answer xs) | Err e ↦ Err e ]

-- after the head of a text
abbrev pub solve_lines : Head → Result (List ℕ) TextRefusal
solve_lines h = lines_of answer_lines (system_after (Ok h))

abbrev pub factors_lines : Head → Result (List ℕ) TextRefusal
factors_lines h = lines_of factors_of_system (system_after (Ok h))

-- for a text whose head is read, or refused
abbrev pub lines_after : (Head → Result (List ℕ) TextRefusal) → Result Head TextRefusal → Result (List ℕ) TextRefusal
lines_after lines (Ok h) = lines h
lines_after lines (Err e) = Err e
