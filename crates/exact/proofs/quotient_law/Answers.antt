use Rattle.exact.proofs.Laws.{quotient-law}
use Rattle.exact.proofs.quotient_law.Goals as goal

pub returns : goal.returns
returns c = quotient-law
