use Rattle.exact.proofs.Laws.{product_law}
use Rattle.exact.proofs.product_law.Goals as goal

pub returns : goal.returns
returns c = product_law
