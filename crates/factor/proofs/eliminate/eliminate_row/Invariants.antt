use Rattle.std.proofs.Common.{map}
use Rattle.model.specs.Factor.{eliminate_row}
use Rattle.factor.proofs.Elimination.{RowBecomes}
use Rattle.factor.proofs.eliminate.eliminate_row.Given as goal

abbrev pub invariant-loop-j : goal.invariant-loop-j
invariant-loop-j g l =
    let real = g.R.Real in
    let ps = map real.val l.pivot_row in
    RowBecomes real.format (real.val l.l) ps l.j (map real.val l.row) (eliminate_row real.format l.k ps (map real.val l.fn.row))
