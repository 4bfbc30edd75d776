use Rattle.std.proofs.Common.{take, codes, sym, ap, ◌∙◌}
use Rattle.std.proofs.lemmas.Result.{IfOk-weaker}
use Rattle.text_model.specs.Systems.{text_head}
use Rattle.text_model.proofs.Stable.{printed-answers-stable}
use Rattle.text_calls.proofs.Shown.{solve_shown}
use Rattle.text_calls.proofs.solve.solve_text.Goals as goal

pub returns-clause-printed : goal.returns-clause-printed
returns-clause-printed c = IfOk-weaker c.printed.result _ _ (λ v h. h ∙ solve_shown (text_head (codes "system") c.args.text.now)) c.printed.ensures

pub returns-clause-stable : goal.returns-clause-stable
returns-clause-stable c =
    IfOk-weaker c.printed.result _ _ (λ v h begins. printed-answers-stable c.args.text.now (ap (take 6) (sym h) ∙ begins)) (returns-clause-printed c)
