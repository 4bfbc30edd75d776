use Rattle.model.proofs.Controls.{inexact_factors}
use Rattle.model.proofs.inexact_factors.Goals as goal

pub returns : goal.returns
returns c = inexact_factors
