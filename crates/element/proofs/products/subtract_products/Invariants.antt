use Rattle.std.proofs.Common.{map}
use Rattle.element.specs.Products.{subtract_product, subtraction_in_range, subtract_products, subtractions_in_range}
use Rattle.element.proofs.Runs.{RunsTo, TestsTo}
use Rattle.element.proofs.products.subtract_products.Given as goal

abbrev pub invariant-loop-x : goal.invariant-loop-x
invariant-loop-x g l =
    let m = g.R.Real in
    let f = m.format in
    let start = m.val l.initial.rest in
    let a = l.x-iterator.a.rest.now in
    let b = l.x-iterator.b.rest.now in
    RunsTo m.val (subtract_product f) (m.val l.rest) a b (subtract_products f start (map m.val l.a) (map m.val l.b))
    × TestsTo m.val (subtract_product f) (subtraction_in_range f) (m.val l.rest) a b (subtractions_in_range f start (map m.val l.a) (map m.val l.b))
