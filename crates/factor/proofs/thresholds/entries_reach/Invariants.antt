use Rattle.std.proofs.Common.{map}
use Rattle.factor.specs.Thresholds.{all_reach}
use Rattle.factor.proofs.Reaching.{ReachTo}
use Rattle.factor.proofs.thresholds.entries_reach.Given as goal

abbrev pub invariant-loop-x : goal.invariant-loop-x
invariant-loop-x g l =
    let real = g.R.Real in
    let xs = map real.val l.xs in
    ReachTo real.format xs l.reached l.x-index (all_reach real.format xs)
