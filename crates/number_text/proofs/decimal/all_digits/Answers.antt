use Rattle.std.proofs.Common.{◌^◌, ◌<◌, ◌≤◌, ◌++◌, length, IfSome, sym, ◌∙◌, subst, arith, length-append}
use Rattle.number_text.proofs.Parts.{numeral_given, numeral-lt, bound_with}
use Rattle.number_text.specs.Number.{numeral}
use Rattle.number_text.proofs.decimal.all_digits.Goals as goal

pub returns-in-1-to-15-clause-bound : goal.returns-in-1-to-15-clause-bound
returns-in-1-to-15-clause-bound c =
    let w = c.args.whole.now in
    let t = c.args.fraction.now in
    let n = length-append w t in
    let e = c.joined_digits.ensures ∙ numeral_given 10 15 (w ++ t) (omega arith) (omega arith) in
    subst (λ o. IfSome o (λ m. (m < 10 ^ 15) × (length t ≤ 15))) (sym e) (bound_with (numeral 10 15 (w ++ t)) (λ m. m < 10 ^ 15) (length t ≤ 15) (omega arith) (numeral-lt 10 15 (w ++ t) (omega arith)))
