use Rattle.text_model.proofs.Stable.{printed-answers-stable}
use Rattle.text_model.proofs.printed_answers_are_stable.Goals as goal

pub returns : goal.returns
returns c = printed-answers-stable
