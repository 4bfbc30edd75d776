use Rattle.std.proofs.Common.{◌≡◌, map, length}
use Rattle.std.specs.List.{All}
use Rattle.element.specs.Matrix.{matrix}
use Rattle.element.specs.Products.{rows_in_range}
use Rattle.element.specs.Rows.{left}
use Rattle.element.proofs.Rows.{RangeTo}
use Rattle.element.proofs.multiply.rows_in_range.Given as goal

abbrev pub invariant-loop-row : goal.invariant-loop-row
invariant-loop-row g l =
    let m = g.R.Real in
    let x = map m.val l.x in
    All (λ row. length row ≡ l.a.size) (left l.row-iterator)
    × RangeTo m.val m.format x (left l.row-iterator) (rows_in_range m.format (matrix l.a.size (map m.val l.a.entries.now)) x)
