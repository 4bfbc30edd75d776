-- No refusal of `factor` has the number 0, so what is promised of an answer is promised where the number is 0.
use Rattle.std.proofs.Common.{◌≡◌, IfOk, Ok, Err, Result, arith}
use Rattle.element.specs.declared.refusal.InputRefusal.TheVariants.{Size, Length, Entry}
use Rattle.element.specs.Refusals.{outcome_number}
use Rattle.model.specs.declared.FactorRefusal.{FactorRefusal}
use Rattle.model.specs.declared.FactorRefusal.TheVariants.{Input, Pivot, Range}
use Rattle.model.specs.Refusals.{factor_number}

factor-some : (e : FactorRefusal) → factor_number e ≡ 0 → ⊥
factor-some (Input Size) p = omega arith
factor-some (Input Length) p = omega arith
factor-some (Input Entry) p = omega arith
factor-some (Pivot k) p = omega arith
factor-some (Range k) p = omega arith

pub factor-answered : (P : Type 0) (o : Result (Unit {0}) FactorRefusal) → IfOk o (λ _. P) → outcome_number factor_number o ≡ 0 → P
factor-answered P (Ok u) m p = m
factor-answered P (Err e) m p = absurd (factor-some e p)
