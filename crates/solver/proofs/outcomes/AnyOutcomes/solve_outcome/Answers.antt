use Rattle.std.proofs.Common.{arith}
use Rattle.solver.proofs.outcomes.AnyOutcomes.solve_outcome.Goals as goal

pub whole_as_slice-solve_with : goal.whole_as_slice-solve_with
whole_as_slice-solve_with g c = omega (arith, c.zero-work.ensures.small)
