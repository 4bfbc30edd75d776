use Rattle.triangular.proofs.Backward.{SolvedFrom}
use Rattle.triangular.proofs.upper.backward_solve.Given as goal

abbrev pub invariant-loop-i : goal.invariant-loop-i
invariant-loop-i g l = SolvedFrom g.R.Real.val g.R.Real.format l.upper.size l.upper.entries.now l.initial.work l.i l.work
