use Rattle.model.proofs.Factored.{factor_theorem}
use Rattle.model.proofs.factors_near.Goals as goal

pub returns : goal.returns
returns c = factor_theorem
