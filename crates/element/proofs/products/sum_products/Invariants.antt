use Rattle.std.proofs.Common.{map}
use Rattle.element.specs.Products.{add_product, sum_products}
use Rattle.element.proofs.Runs.{RunsTo}
use Rattle.element.proofs.products.sum_products.Given as goal

abbrev pub invariant-loop-x : goal.invariant-loop-x
invariant-loop-x g l =
    let m = g.R.Real in
    RunsTo m.val (add_product m.format) (m.val l.sum) l.x-iterator.a.rest.now l.x-iterator.b.rest.now (sum_products m.format (map m.val l.a) (map m.val l.b))
