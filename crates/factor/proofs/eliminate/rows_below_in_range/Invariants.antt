use Rattle.std.proofs.Common.{◌≡◌, ◌+◌, length, drop}
use Rattle.std.specs.List.{All}
use Rattle.element.specs.Matrix.{row}
use Rattle.element.specs.Rows.{left}
use Rattle.model.specs.Factor.{eliminate_rows_in_range}
use Rattle.factor.specs.Slices.{matrix_of}
use Rattle.factor.proofs.Elimination.{RowsTestTo}
use Rattle.factor.proofs.eliminate.rows_below_in_range.Given as goal

abbrev pub invariant-loop-row : goal.invariant-loop-row
invariant-loop-row g l =
    let real = g.R.Real in
    let m = matrix_of real.val l.m.size l.m.entries.now in
    All (λ r. length r ≡ l.m.size) (left l.row-iterator)
    × RowsTestTo real.val real.format l.k (row m l.k) (left l.row-iterator) (eliminate_rows_in_range real.format l.k (row m l.k) (drop (l.k + 1) m))
