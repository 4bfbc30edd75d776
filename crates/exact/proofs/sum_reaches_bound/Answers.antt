use Rattle.exact.proofs.Controls.{sum-reaches_bound}
use Rattle.exact.proofs.sum_reaches_bound.Goals as goal

pub returns : goal.returns
returns c = sum-reaches_bound
