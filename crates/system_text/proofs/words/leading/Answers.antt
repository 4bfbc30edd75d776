use Rattle.std.proofs.Common.{◌≡◌, ◌∙◌, true, false, not, rules}
use Rattle.std.specs.Bool.{beq}
use Rattle.std.proofs.lemmas.Iterator.{YieldsList-from_slice, IsFirst-from_position}
use borrow.Author.Tests.{tests}
use Rattle.text_model.specs.Words.{separator}
use Rattle.system_text.proofs.Leading.{leading_first}
use Rattle.system_text.proofs.words.leading.Goals as goal

pub returns-clause-value : goal.returns-clause-value
returns-clause-value c =
    let s = c.args.separators in
    let t = c.args.text.now in
    c.unwrap_or.ensures
    ∙ leading_first s t c.position.result (IsFirst-from_position _ _ c.position.result (λ b. not (beq (separator b) s) ≡ true) (λ b. not (beq (separator b) s) ≡ false)
    c.position.ensures.ran (YieldsList-from_slice t cc) (λ x q k. search (rules, tests)) (λ x q k. search (rules, tests)))
