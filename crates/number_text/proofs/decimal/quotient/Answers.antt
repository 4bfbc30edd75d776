use Rattle.number_text.proofs.Quotients.{zero-quotient, rounded_held, rounded_is}
use Rattle.number_text.proofs.decimal.quotient.Goals as goal

pub returns-then-m-eq0 : goal.returns-then-m-eq0
returns-then-m-eq0 g c =
    zero-quotient g.R.Real.format c.args.negative c.args.m c.args.den c.requires.1 c.if-m-eq0.true (g.R.Real.val c.from_units.result) c.from_units.ensures

pub from_units-requires-2 : goal.from_units-requires-2
from_units-requires-2 g c =
    let d = c.doubled_to-n in
    rounded_held g.R.Real.format c.args.negative c.args.m c.args.den c.precision-spare.result c.low.result d.result.0 d.result.1 c.nearest.result c.precision-spare.ensures c.low.ensures c.requires.1 c.requires.2 d.ensures c.nearest.ensures

pub returns : goal.returns
returns g c =
    let d = c.doubled_to-n in
    rounded_is g.R.Real.format c.args.negative c.args.m c.args.den c.precision-spare.result c.low.result d.result.0 d.result.1 c.nearest.result c.precision-spare.ensures c.low.ensures c.requires.1 c.requires.2 d.ensures c.nearest.ensures
    (g.R.Real.val c.from_units-2.result) c.from_units-2.ensures
