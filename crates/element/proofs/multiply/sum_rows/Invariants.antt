use Rattle.std.proofs.Common.{map, take}
use Rattle.element.specs.Matrix.{matrix}
use Rattle.element.specs.Products.{sum_rows}
use Rattle.element.proofs.Rows.{SumsTo}
use Rattle.element.proofs.multiply.sum_rows.Given as goal

abbrev pub invariant-loop-i : goal.invariant-loop-i
invariant-loop-i g l =
    let m = g.R.Real in
    let a = map m.val l.a.entries.now in
    let x = map m.val l.x in
    SumsTo m.format l.a.size a x (map m.val (take l.i l.y)) l.i (sum_rows m.format (matrix l.a.size a) x)
