use Rattle.std.proofs.Common.{map}
use Rattle.element.specs.Matrix.{matrix}
use Rattle.model.specs.Calls.{no_zero_pivot}
use Rattle.triangular.proofs.Sound.{PivotsTo}
use Rattle.triangular.proofs.checks.no_zero_pivot.Given as goal

abbrev pub invariant-loop-i : goal.invariant-loop-i
invariant-loop-i g l = let a = map g.R.Real.val l.a.entries.now in PivotsTo l.a.size a l.i (no_zero_pivot 0 (matrix l.a.size a))
