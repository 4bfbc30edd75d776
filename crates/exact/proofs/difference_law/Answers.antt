use Rattle.exact.proofs.Laws.{difference-law}
use Rattle.exact.proofs.difference_law.Goals as goal

pub returns : goal.returns
returns c = difference-law
