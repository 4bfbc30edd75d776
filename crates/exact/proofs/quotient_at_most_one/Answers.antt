use Rattle.exact.proofs.Laws.{quotient_at_most_one}
use Rattle.exact.proofs.quotient_at_most_one.Goals as goal

pub returns : goal.returns
returns c = quotient_at_most_one
