use lib.Ieee.{binary32}
use Rattle.element.proofs.Comparisons.{is-zero}
use Rattle.element.proofs.binary32.F32Real.is_zero.Goals as goal

pub returns : goal.returns
returns c = is-zero binary32 c.args.self
