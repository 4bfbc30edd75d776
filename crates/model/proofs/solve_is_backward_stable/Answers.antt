use Rattle.model.proofs.Theorems.{solve_theorem}
use Rattle.model.proofs.solve_is_backward_stable.Goals as goal

pub returns : goal.returns
returns c = solve_theorem
