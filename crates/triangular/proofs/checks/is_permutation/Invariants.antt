use Rattle.std.proofs.Common.{◌≡◌, length}
use Rattle.model.specs.Calls.{once_each}
use Rattle.triangular.proofs.checks.is_permutation.Given as goal

abbrev pub invariant-loop-left : goal.invariant-loop-left
invariant-loop-left l = once_each l.n l.left ≡ once_each l.n l.order

abbrev pub decreases-loop-left : goal.decreases-loop-left
decreases-loop-left l = length l.left
