use Rattle.std.proofs.Common.{map}
use Rattle.model.specs.Factor.{eliminate_row_in_range}
use Rattle.factor.proofs.Elimination.{RowTestsTo}
use Rattle.factor.proofs.eliminate.row_in_range.Given as goal

abbrev pub invariant-loop-x : goal.invariant-loop-x
invariant-loop-x g l =
    let real = g.R.Real in
    RowTestsTo real.val real.format (real.val l.l) l.in_range l.x-iterator.a.rest.now l.x-iterator.b.rest.now (eliminate_row_in_range real.format l.k (map real.val l.pivot_row) (map real.val l.row))
