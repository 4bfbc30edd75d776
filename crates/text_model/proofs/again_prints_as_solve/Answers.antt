use Rattle.text_model.proofs.Again.{again_as_solve_printed}
use Rattle.text_model.proofs.again_prints_as_solve.Goals as goal

pub returns : goal.returns
returns c = again_as_solve_printed
