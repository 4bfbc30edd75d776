use lib.Ieee.{binary64}
use Rattle.element.proofs.Comparisons.{is-zero}
use Rattle.element.proofs.binary64.F64Real.is_zero.Goals as goal

pub returns : goal.returns
returns c = is-zero binary64 c.args.self
