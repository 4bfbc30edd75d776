use lib.Ieee.{binary32}
use Rattle.element.proofs.Comparisons.{reaches-threshold}
use Rattle.element.proofs.binary32.F32Real.reaches_threshold.Goals as goal

pub returns : goal.returns
returns c = reaches-threshold binary32 c.args.self
