use Rattle.std.proofs.Common.{◌<◌, ◌≤◌}
use Rattle.model.specs.Factor.{pivot}
use Rattle.factor.specs.Slices.{matrix_of}
use Rattle.factor.proofs.Largest.{LargestTo}
use Rattle.factor.proofs.pivot.find_pivot.Given as goal

abbrev pub invariant-loop-i : goal.invariant-loop-i
invariant-loop-i g l =
    let m = matrix_of g.R.Real.val l.m.size l.m.entries.now in
    LargestTo l.k m l.p l.i (pivot l.k m) × (l.k ≤ l.p) × (l.p < l.m.size)
