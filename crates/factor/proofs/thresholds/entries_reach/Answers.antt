use Rattle.std.proofs.Common.{map, arith}
use Rattle.std.proofs.lemmas.List.{length-map}
use Rattle.factor.proofs.Reaching.{reach_end}
use Rattle.factor.proofs.thresholds.entries_reach.Goals as goal

pub returns : goal.returns
returns g c =
    let real = g.R.Real in
    let xs = map real.val c.args.xs.now in
    reach_end real.format xs c.loop-x.reached c.loop-x.x-index _ (omega (arith, length-map c.args.xs.now real.val)) c.loop-x.invariant
