use Rattle.std.proofs.Common.{map}
use Rattle.element.specs.Products.{add_product, addition_in_range, sum_in_range}
use Rattle.element.proofs.Runs.{TestsTo}
use Rattle.element.proofs.products.sum_in_range.Given as goal

abbrev pub invariant-loop-x : goal.invariant-loop-x
invariant-loop-x g l =
    let m = g.R.Real in
    TestsTo m.val (add_product m.format) (addition_in_range m.format) (m.val l.partial) l.x-iterator.a.rest.now l.x-iterator.b.rest.now (sum_in_range m.format (map m.val l.a) (map m.val l.b))
