use Rattle.analysis.proofs.Residual.{residual_step}
use Rattle.analysis.proofs.residual_step.Goals as goal

pub returns : goal.returns
returns c = residual_step
