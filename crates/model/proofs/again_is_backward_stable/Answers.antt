use Rattle.model.proofs.Again.{again_theorem}
use Rattle.model.proofs.again_is_backward_stable.Goals as goal

pub returns : goal.returns
returns c = again_theorem
