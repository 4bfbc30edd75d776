use Rattle.exact.proofs.Laws.{sum-law}
use Rattle.exact.proofs.sum_law.Goals as goal

pub returns : goal.returns
returns c = sum-law
