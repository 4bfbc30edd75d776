use Rattle.factor.proofs.UpTo.{written_none}
use Rattle.factor.proofs.factoring.Factoring.begin.Goals as goal

pub loop-i-init : goal.loop-i-init
loop-i-init g c = written_none c.args.order.now
