use Rattle.exact.proofs.Controls.{inexact_sum}
use Rattle.exact.proofs.inexact_sum.Goals as goal

pub returns : goal.returns
returns c = inexact_sum
