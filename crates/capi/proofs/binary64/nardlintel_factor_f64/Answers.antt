use lib.Ieee.{binary64}
use Rattle.capi.proofs.Plain.{factor_plain}
use Rattle.capi.proofs.binary64.nardlintel_factor_f64.Goals as goal

pub returns : goal.returns
returns c =
    let e = c.factor_outcome.ensures in
    let w = c.report.ensures in
    factor_plain binary64 c.args.n c.args.a.now c.args.lu.now c.args.order.now c.args.column.now c.factor_outcome.result c.report.result c.factor_outcome.new.lu c.factor_outcome.new.order c.report.new.column
    e.outcome e.factors e.order e.near w.number w.column
