-- The number of each refusal, and of an outcome: 0 for an answer.
use Rattle.std.specs.Prelude.{ℕ, Ok, Err, Result}
use Rattle.element.specs.declared.refusal.InputRefusal.{InputRefusal}
use Rattle.element.specs.declared.refusal.InputRefusal.TheVariants.{Size, Length, Entry}
use Rattle.element.specs.declared.refusal.MultiplyRefusal.{MultiplyRefusal}
use Rattle.element.specs.declared.refusal.MultiplyRefusal.TheVariants.{Input, Range}

abbrev pub input_number : InputRefusal → ℕ
input_number Size = 1
input_number Length = 2
input_number Entry = 3

abbrev pub multiply_number : MultiplyRefusal → ℕ
multiply_number (Input e) = input_number e
multiply_number Range = 6

abbrev pub outcome_number : {E : Type 0} → (E → ℕ) → Result (Unit {0}) E → ℕ
outcome_number number (Ok u) = 0
outcome_number number (Err e) = number e
