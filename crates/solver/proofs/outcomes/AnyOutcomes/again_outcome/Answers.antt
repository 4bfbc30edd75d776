use Rattle.std.proofs.Common.{arith}
use Rattle.solver.proofs.outcomes.AnyOutcomes.again_outcome.Goals as goal

pub whole_as_slice-again_with : goal.whole_as_slice-again_with
whole_as_slice-again_with g c = omega (arith, c.zero-work.ensures.small)
