use Rattle.model.proofs.Theorems.{again_as_solve}
use Rattle.model.proofs.again_is_as_solve.Goals as goal

pub returns : goal.returns
returns c = again_as_solve
