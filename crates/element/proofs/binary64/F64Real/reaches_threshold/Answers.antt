use lib.Ieee.{binary64}
use Rattle.element.proofs.Comparisons.{reaches-threshold}
use Rattle.element.proofs.binary64.F64Real.reaches_threshold.Goals as goal

pub returns : goal.returns
returns c = reaches-threshold binary64 c.args.self
