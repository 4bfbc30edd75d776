use Rattle.exact.proofs.Controls.{inexact_quotient}
use Rattle.exact.proofs.inexact_quotient.Goals as goal

pub returns : goal.returns
returns c = inexact_quotient
