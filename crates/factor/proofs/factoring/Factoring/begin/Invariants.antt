use Rattle.factor.proofs.UpTo.{Written}
use Rattle.factor.proofs.factoring.Factoring.begin.Given as goal

abbrev pub invariant-loop-i : goal.invariant-loop-i
invariant-loop-i g l = Written l.order l.i
